use Rattle.std.proofs.Common.{◌≡◌, ℕ, ◌+◌, ◌-◌, true, false, ◌&&◌, sym, ap, ◌∙◌, arith}
use Rattle.std.specs.List.{range_with_len}
use Rattle.rules.specs.Calendar.{Pool, distance, allowed}
use Rattle.rules.specs.Counting.{any}
use Rattle.rules.specs.Choose.{Question, repeats}
use Rattle.choosing.specs.Blinds.{turn_after, by_one}
use Rattle.choosing.specs.Searches.{pool_of, asked, slots}
use Rattle.choosing.proofs.Marking.{marked_same, marked_none, marked_more}
use Rattle.choosing.proofs.Search.mark_code.Goals as goal

-- the turns by an allowed code
allowed_turns : (p : Pool) (q : Question) (z g code d n y : ℕ) → allowed p code ≡ true → d ≡ distance p code → n ≡ repeats p code g → by_one p q z g code y ≡ any (λ k. turn_after p q z d k y) (range_with_len 1 n)
allowed_turns p q z g code d n y may far many =
    ap (λ b. b && any (λ k. turn_after p q z (distance p code) k y) (range_with_len 1 (repeats p code g))) may
    ∙ ap (λ t. any (λ k. turn_after p q z (distance p code) k y) (range_with_len 1 t)) (sym many)
    ∙ ap (λ t. any (λ k. turn_after p q z t k y) (range_with_len 1 n)) (sym far)

not_allowed : (p : Pool) (q : Question) (z g code y : ℕ) → allowed p code ≡ false → by_one p q z g code y ≡ false
not_allowed p q z g code y not_in = ap (λ b. b && any (λ k. turn_after p q z (distance p code) k y) (range_with_len 1 (repeats p code g))) not_in

pub returns-then-not-allows : goal.returns-then-not-allows
returns-then-not-allows c =
    let s = c.args.self.now in
    let p = pool_of s in
    let q = asked s in
    marked_none (slots s) (by_one p q c.args.z c.args.g c.args.code) c.args.flags.now
    (λ y. not_allowed p q c.args.z c.args.g c.args.code y (sym c.if-not-allows.ensures))

pub loop-k-preserved : goal.loop-k-preserved
loop-k-preserved c =
    let s = c.args.self.now in
    let k = c.loop-k.k in
    let one = c.loop-k.auto.k in
    marked_more (slots s) (turn_after (pool_of s) (asked s) c.args.z c.from-d.result) 1 (k - 1) (k + 1 - 1) k c.args.flags.now c.loop-k.flags c.mark_turn.new.flags (omega arith) (omega arith)
    c.loop-k.invariant
    c.mark_turn.ensures

pub returns-else-not-allows-2 : goal.returns-else-not-allows-2
returns-else-not-allows-2 c =
    let s = c.args.self.now in
    let p = pool_of s in
    let q = asked s in
    let k = c.loop-k.k in
    let n = c.repeats-k-end.result in
    let one = c.loop-k.auto.k in
    let d = c.from-d.result in
    marked_same (slots s) (λ y. any (λ k. turn_after p q c.args.z d k y) (range_with_len 1 n)) (by_one p q c.args.z c.args.g c.args.code) c.args.flags.now c.mark_turn.new.flags
    (λ y. allowed_turns p q c.args.z c.args.g c.args.code d n y (sym c.if-not-allows.ensures) (c.from-d.ensures ∙ c.distance.ensures.value) c.repeats-k-end.ensures.value)
    (marked_more (slots s) (turn_after p q c.args.z d) 1 (k - 1) n k c.args.flags.now c.loop-k.flags c.mark_turn.new.flags (omega arith) (omega arith)
    c.loop-k.invariant
    c.mark_turn.ensures)
