-- The reader of control records is exact. Assumes nothing.
use Rattle.std.proofs.Common.{◌≡◌, ℕ, ◌+◌, ◌*◌, ◌/◌, ◌%◌, ◌^◌, ◌<◌, ◌≤◌, Bool, true, false, cond, eqb, List, [], ◌∷◌, length, get_or, Some, None, Ok, Err, Option, sym, refl, ap, ◌∙◌, subst, ⊎_elim, arith, lit<}
use Rattle.std.proofs.lemmas.Bool.{cases_Bool, leb-true, le-leb, eqb-true, eq-eqb, cond-true, cond-false, true≢false}
use Rattle.std.proofs.lemmas.Nat.{pow_pos, mod_below}
use Rattle.rules.specs.Counting.{first_no}
use Rattle.rules.specs.Format.{Record, Names, pair, width, bits, code_of, riv_of, rest_of, word, split, joined, bytes, Has, Within, Reads, Four, fits, questions, or_zeros, record_with, record_of, reading, LaidOut, Exact}
use Rattle.rules.proofs.Riv.{names_found, found_names}
use Rattle.rules.proofs.Format.{word_small, has_word, word_has}

pub bits_small : (x from size : ℕ) → bits x from size < 2 ^ size
unfolding bits
bits_small x from size = mod_below _ _ (pow_pos size)

-- bytes and words
four_items : (bs : List ℕ) → length bs ≡ 4 → bs ≡ get_or bs 0 0 ∷ get_or bs 1 0 ∷ get_or bs 2 0 ∷ get_or bs 3 0 ∷ []
four_items [] e = absurd (omega arith)
four_items (a ∷ []) e = absurd (omega arith)
four_items (a ∷ b ∷ []) e = absurd (omega arith)
four_items (a ∷ b ∷ c ∷ []) e = absurd (omega arith)
four_items (a ∷ b ∷ c ∷ d ∷ []) e = refl
four_items (a ∷ b ∷ c ∷ d ∷ x ∷ xs) e = absurd (omega arith)

joined_split : (x : ℕ) → x < 2 ^ 32 → joined (split x) ≡ x
joined_split x h =
    let a : x / 2 ^ 8 / 256 ≡ x / 2 ^ 16 = omega arith in
    let b : x / 2 ^ 16 / 256 ≡ x / 2 ^ 24 = omega arith in
    omega arith

split_joined : (a b c d : ℕ) → a < 256 → b < 256 → c < 256 → d < 256 → split (a * 2 ^ 24 + b * 2 ^ 16 + c * 2 ^ 8 + d) ≡ a ∷ b ∷ c ∷ d ∷ []
split_joined a b c d ha hb hc hd =
    let x = a * 2 ^ 24 + b * 2 ^ 16 + c * 2 ^ 8 + d in
    let p : x / 2 ^ 24 ≡ a = omega arith in
    let q : x / 2 ^ 16 % 256 ≡ b = omega arith in
    let r : x / 2 ^ 8 % 256 ≡ c = omega arith in
    let s : x % 256 ≡ d = omega arith in
    cc

pub split_back : (bs : List ℕ) → Four bs → split (joined bs) ≡ bs
split_back bs h =
    split_joined (get_or bs 0 0) (get_or bs 1 0) (get_or bs 2 0) (get_or bs 3 0) (h.small 0) (h.small 1) (h.small 2) (h.small 3)
    ∙ sym (four_items bs h.many)

pub joined_small : (bs : List ℕ) → Four bs → joined bs < 2 ^ 32
joined_small bs h = omega (arith, h.small 0, h.small 1, h.small 2, h.small 3)

-- a word that passes the questions is the word of the record with its pair
module _ (n x : ℕ) (p : ℕ × ℕ) (coded : code_of x ≤ 12) (named : pair n (riv_of n x) ≡ Some p) where
  pub with_within : Within n (record_with n x p)
  with_within =
      let names = found_names n (riv_of n x) p.0 p.1 named in
      record {
        priority = bits_small x 0 3;
        code = coded;
        some = names.some;
        inside = names.inside;
        gap = bits_small x (7 + width n) 4;
        mcs = bits_small x (11 + width n) 5;
        again = bits_small x (16 + width n) 1;
      }

  pub with_word : n ≤ 255 → x < 2 ^ 32 → rest_of n x ≡ 0 → word n (record_with n x p) ≡ x
  with_word few small zeros =
      let names = found_names n (riv_of n x) p.0 p.1 named in
      word_has n x (record_with n x p) few small
      (record { priority = refl; code = refl; value = sym names.value; gap = refl; mcs = refl; again = refl; rest = zeros })

  with_of : record_of n x ≡ record_with n x p
  unfolding record_of
  with_of = ap (λ o. record_with n x (or_zeros o)) named

-- a word with the fields of a record gives the record
has_record : (n x : ℕ) (r : Record) → 1 ≤ r.length → r.start + r.length ≤ n → Has n x r → record_of n x ≡ r
unfolding record_of
has_record n x r some inside w =
    let named = names_found n (riv_of n x) r.length r.start (record { some = some; inside = inside; value = sym w.value }) in
    let a = w.priority in
    let b = w.code in
    let c = w.gap in
    let d = w.mcs in
    let e = w.again in
    let m : record_with n x (r.length, r.start) ≡ r = rw (a, b, c, d, e) in
    ap (λ o. record_with n x (or_zeros o)) named ∙ m

forth : (n x l f : ℕ) → n ≤ 255 → x < 2 ^ 32 → code_of x ≤ 12 → Names n (riv_of n x) l f → rest_of n x ≡ 0 → Within n (record_of n x) × (word n (record_of n x) ≡ x)
forth n x l f few small coded names zeros =
    let named = names_found n (riv_of n x) l f names in
    subst (λ r. Within n r × (word n r ≡ x)) (sym (with_of n x (l, f) coded named))
    (with_within n x (l, f) coded named, with_word n x (l, f) coded named few small zeros)

pub laid_out : LaidOut
laid_out =
    record {
      has = has_word;
      small = word_small;
      back = λ n r few w. has_record n (word n r) r w.some w.inside (has_word n r few w);
      forth = forth;
    }

-- the bytes of what is read
pub read_sound : (n resource : ℕ) (bs : List ℕ) (p : ℕ × ℕ) → n ≤ 255 → Four bs → code_of (joined bs) ≤ 12 → pair n (riv_of n (joined bs)) ≡ Some p → resource + p.0 ≤ n → rest_of n (joined bs) ≡ 0 → Reads n resource bs (record_with n (joined bs) p)
unfolding bytes
read_sound n resource bs p few four coded named inside zeros =
    record {
      within = with_within n (joined bs) p coded named;
      inside = inside;
      same = ap split (with_word n (joined bs) p coded named few (joined_small bs four) zeros) ∙ split_back bs four;
    }

-- what the word of a record's bytes has
pub read_has : (n resource : ℕ) (bs : List ℕ) (r : Record) → n ≤ 255 → Reads n resource bs r → Has n (joined bs) r
unfolding bytes
read_has n resource bs r few h =
    let e : joined bs ≡ word n r = ap joined (sym h.same) ∙ joined_split (word n r) (word_small n r few h.within) in
    subst (λ x. Has n x r) (sym e) (has_word n r few h.within)

pub read_pair : (n resource : ℕ) (bs : List ℕ) (r : Record) → n ≤ 255 → Reads n resource bs r → pair n (riv_of n (joined bs)) ≡ Some (r.length, r.start)
read_pair n resource bs r few h =
    names_found n (riv_of n (joined bs)) r.length r.start
    (record { some = h.within.some; inside = h.within.inside; value = sym (read_has n resource bs r few h).value })

-- the questions, each answered yes
pub record Yes (n resource : ℕ) (bs : List ℕ) : Type 0 where
  pub code : code_of (joined bs) ≤ 12
  pub pair : fits n resource (pair n (riv_of n (joined bs))) ≡ true
  pub rest : rest_of n (joined bs) ≡ 0

zero_cond : (b : Bool) (x k : ℕ) → 0 < k → cond b x k ≡ 0 → (b ≡ true) × (x ≡ 0)
zero_cond true x k h e = (refl, e)
zero_cond false x k h e = absurd (omega arith)

pub all_yes : (n resource : ℕ) (bs : List ℕ) → first_no (questions n resource bs) ≡ 0 → Yes n resource bs
all_yes n resource bs e =
    let a = zero_cond _ _ 25 (lit< tt) e in
    let b = zero_cond _ _ 26 (lit< tt) a.1 in
    let c = zero_cond _ _ 27 (lit< tt) b.1 in
    record { code = leb-true _ _ a.0; pair = b.0; rest = eqb-true _ _ c.0 }

pub yes_all : (n resource : ℕ) (bs : List ℕ) → Yes n resource bs → first_no (questions n resource bs) ≡ 0
yes_all n resource bs y =
    cond-true _ _ _ (le-leb _ _ y.code) ∙ cond-true _ _ _ y.pair ∙ cond-true _ _ _ (eq-eqb _ _ y.rest)

pub read_yes : (n resource : ℕ) (bs : List ℕ) (r : Record) → n ≤ 255 → Reads n resource bs r → Yes n resource bs
read_yes n resource bs r few h =
    let w = read_has n resource bs r few h in
    record {
      code = omega (arith, w.code, h.within.code);
      pair = ap (fits n resource) (read_pair n resource bs r few h) ∙ le-leb _ _ h.inside;
      rest = w.rest;
    }

some_fits : (n resource : ℕ) (o : Option (ℕ × ℕ)) → fits n resource o ≡ true → (p : ℕ × ℕ) × ((o ≡ Some p) × (resource + p.0 ≤ n))
some_fits n resource None e = absurd (true≢false (sym e))
some_fits n resource (Some p) e = (p, (refl, leb-true _ _ e))

sound : (n resource : ℕ) (bs : List ℕ) (r : Record) → n ≤ 255 → Four bs → reading n resource bs ≡ Ok r → Reads n resource bs r
unfolding reading
sound n resource bs r few four is =
    let f = first_no (questions n resource bs) in
    let x = joined bs in
    ⊎_elim
    (λ t.
    let y = all_yes n resource bs (eqb-true f 0 t) in
    let s = some_fits n resource (pair n (riv_of n x)) y.pair in
    let got : reading n resource bs ≡ Ok (record_of n x) = cond-true _ _ _ t in
    let e : record_of n x ≡ r = cc in
    let m = with_of n x s.0 y.code s.1.0 in
    subst (λ q. Reads n resource bs q) (sym m ∙ e) (read_sound n resource bs s.0 few four y.code s.1.0 s.1.1 y.rest))
    (λ t.
    let got : reading n resource bs ≡ Err f = cond-false _ _ _ t in
    let z : ◌≡◌ {A = ℕ} 0 1 = cc in absurd (omega arith))
    (cases_Bool (eqb f 0))

complete : (n resource : ℕ) (bs : List ℕ) (r : Record) → n ≤ 255 → Reads n resource bs r → reading n resource bs ≡ Ok r
unfolding reading
complete n resource bs r few h =
    cond-true _ _ _ (eq-eqb _ _ (yes_all n resource bs (read_yes n resource bs r few h)))
    ∙ ap Ok (has_record n (joined bs) r h.within.some h.within.inside (read_has n resource bs r few h))

pub exact : Exact
exact = record { sound = sound; complete = complete }
