use Rattle.std.proofs.Common.{◌≡◌, ℕ, ◌<◌, Bool, true, false, ◌&&◌, leb, List, Option, MatchOption, sym, refl, ◌∙◌, arith, rules}
use Rattle.std.specs.Bool.{then_some}
use Rattle.std.proofs.lemmas.Bool.{leb-true, true≢false}
use Rattle.rules.specs.Configure.{sizes, byte_bit, bitmap_ok}
use Rattle.rules.specs.Closed.{word_bit}
use Rattle.rules.proofs.Limits.{every_among}
use Rattle.rules.proofs.Bitmaps.{bitmap_unclean, bitmap_decided}
use Rattle.pool.specs.Pools.{SameBits}
use Rattle.pool.specs.declared.Bitmap.{Bitmap}
use Rattle.pool.proofs.configure.bitmap.Goals.{then-size_ok, else-size_ok, then-rest_zero, else-rest_zero}
use Rattle.pool.proofs.configure.bitmap.Goals as goal

pub rest_zero-requires : goal.rest_zero-requires
rest_zero-requires c =
    let small = leb-true c.args.size 100 (every_among (λ n. leb n 100) c.args.size sizes refl (sym c.size_ok.ensures ∙ c.if-size_ok.true)) in
    omega arith

-- the bitmap, where the answer is yes
told : (n : ℕ) (bytes : List ℕ) (b : Bitmap) (yes : Bool) (o : Option Bitmap) → yes ≡ bitmap_ok n bytes → b.size ≡ n → ((i : ℕ) → i < 128 → word_bit b.words i ≡ byte_bit bytes i) → o ≡ then_some yes b → MatchOption o (bitmap_ok n bytes ≡ false) (SameBits n bytes)
told n bytes b true o e long bits is = rw is (record { ok = sym e; length = long; bits = bits })
told n bytes b false o e long bits is = rw is (sym e)

-- a length that is not allowed
first_no : (x y z : Bool) → x ≡ false → (x && y && z) ≡ false
first_no true y z h = absurd (true≢false h)
first_no false y z h = refl

pub returns : goal.returns
returns c =
    let b = c.args.size in
    let bytes = c.args.bytes.now in
    let words = c.words-words.result in
    let bits = c.words-words.ensures.same in
    let yes : c.if-rest_zero.then_some ≡ bitmap_ok b bytes =
    elim c.if-size_ok.branch [
      | then-size_ok w ↦
          (let sized = sym c.size_ok.ensures ∙ w.if-size_ok.true in
          let small = leb-true b 100 (every_among (λ n. leb n 100) b sizes refl sized) in
          elim c.if-rest_zero.branch [
            | then-rest_zero v ↦
                v.then_some-is
                ∙ v.some_bit.ensures
                ∙ bitmap_decided words bytes b (search rules) (λ k _. c.words-words.ensures.fits k) bits (search rules) (omega arith) w.rest_zero.result w.rest_zero.ensures (sym w.value-is ∙ v.if-rest_zero.true) sized
            | else-rest_zero v ↦
                v.then_some-is
                ∙ v.if-rest_zero.false
                ∙ bitmap_unclean words bytes b (search rules) (λ k _. c.words-words.ensures.fits k) bits (search rules) (omega arith) w.rest_zero.result w.rest_zero.ensures (sym w.value-is ∙ v.if-rest_zero.false)
          ])
      | else-size_ok w ↦
          elim c.if-rest_zero.branch [
            | then-rest_zero v ↦ absurd (true≢false (sym v.if-rest_zero.true ∙ w.value-is ∙ w.if-size_ok.false))
            | else-rest_zero v ↦ v.then_some-is ∙ v.if-rest_zero.false ∙ sym (first_no _ _ _ (sym c.size_ok.ensures ∙ w.if-size_ok.false))
          ]
    ] in
    told b bytes _ _ _ yes refl bits c.then_some.ensures
