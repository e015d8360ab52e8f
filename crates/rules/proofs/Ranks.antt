-- The rank of a subframe in closed form. Assumes nothing.
use Rattle.std.proofs.Common.{◌≡◌, ℕ, zero, suc, ◌+◌, ◌-◌, ◌*◌, ◌/◌, ◌%◌, ◌≤◌, Bool, true, false, ◌&&◌, ◌||◌, eqb, ltb, leb, List, [], ◌∷◌, length, sym, refl, ap, ◌∙◌, ⊎_elim, arith}
use Rattle.std.proofs.lemmas.List.Sums.{sum_by-cons}
use Rattle.std.proofs.lemmas.Bool.{and_parts, or_cases, ltb-true, eqb-true, cases_Bool, not-true, true≢false}
use Rattle.rules.specs.Counting.{one, count_below, every, among, distinct}
use Rattle.rules.specs.Calendar.{Pool, positions, remains, rank, remaining}
use Rattle.rules.specs.Closed.{positions_below, uplink_before, sync_before}
use Rattle.rules.proofs.Counts.{count_round, count_split, count_offset}
use Rattle.rules.proofs.Limits.{Limits, all_at, every_among}

-- ten positions hold all of a code's, which antt computes for each code
pub all_positions : (code : ℕ) → code ≤ 7 → positions_below code 10 ≡ length (positions code)
all_positions code h =
    eqb-true _ _ (all_at (λ c. eqb (positions_below c 10) (length (positions c))) 8 refl code (omega arith))

-- a code has one position at least and ten at most
pub some_position : (code : ℕ) → code ≤ 7 → (1 ≤ length (positions code)) × (length (positions code) ≤ 10)
some_position code h =
    let t = and_parts _ _ (all_at (λ c. leb 1 (length (positions c)) && leb (length (positions c)) 10) 8 refl code (omega arith)) in
    (Rattle.std.proofs.lemmas.Bool.leb-true _ _ t.0, Rattle.std.proofs.lemmas.Bool.leb-true _ _ t.1)

pub uplink_counted : (code d : ℕ) → code ≤ 7 → count_below (λ e. among (e % 10) (positions code)) d ≡ uplink_before code d
unfolding uplink_before
uplink_counted code d h =
    count_round (λ e. among e (positions code)) 10 (omega arith) d ∙ ap (λ n. n * (d / 10) + positions_below code (d % 10)) (all_positions code h)

-- an offset that is not among the others is counted apart from them
one_more : (o x : ℕ) (os : List ℕ) → among o os ≡ false → one (eqb o x) + one (among x os) ≡ one (eqb o x || among x os)
one_more o x os new =
    ⊎_elim
    (λ t. let e : among x os ≡ false = ap (λ y. among y os) (sym (eqb-true o x t)) ∙ new in rw (t, e))
    (λ t. rw t (omega arith))
    (cases_Bool (eqb o x))

pub sync_counted : (os : List ℕ) (d : ℕ) → distinct os ≡ true → every (λ o. ltb o 160) os ≡ true → count_below (λ e. among (e % 160) os) d ≡ sync_before os d
unfolding sync_before
sync_counted [] d apart low = none d
  where
    none : (n : ℕ) → count_below (λ e. false) n ≡ 0
    none zero = refl
    none (suc n) = omega (arith, none n)
sync_counted (o ∷ os) d apart low =
    let a = and_parts _ _ apart in
    let l = and_parts _ _ low in
    let split = count_split (λ e. eqb o (e % 160)) (λ e. among (e % 160) os) (λ e. among (e % 160) (o ∷ os)) d (λ k _. one_more o (k % 160) os (not-true _ a.0)) in
    let here = count_offset o d (ltb-true o 160 l.0) in
    let there = sync_counted os d a.1 l.1 in
    let both = sum_by-cons (λ o. (d + 159 - o) / 160) o os in
    omega arith

-- what is on a sync offset is on an uplink position
split_remains : (p : Pool) → Limits p → (d : ℕ) → one (remains p d) + one (among (d % 160) p.offsets) ≡ one (among (d % 10) (positions p.uplink))
unfolding remains
split_remains p limits d =
    ⊎_elim
    (λ t.
    let here = every_among (λ o. among (o % 10) (positions p.uplink)) (d % 160) p.offsets limits.placed t in
    let same : d % 160 % 10 ≡ d % 10 = omega arith in
    let up : among (d % 10) (positions p.uplink) ≡ true = ap (λ r. among r (positions p.uplink)) (sym same) ∙ here in
    rw (t, up))
    (λ t. rw t (and_true _))
    (cases_Bool (among (d % 160) p.offsets))
  where
    and_true : (b : Bool) → one (b && true) + 0 ≡ one b
    and_true true = refl
    and_true false = refl

-- the rank of d: the uplink subframes before it less those on a sync offset
pub rank_closed : (p : Pool) → Limits p → (d : ℕ) → rank p d + sync_before p.offsets d ≡ uplink_before p.uplink d
unfolding rank
rank_closed p limits d =
    let split = count_split (remains p) (λ e. among (e % 160) p.offsets) (λ e. among (e % 10) (positions p.uplink)) d (λ k _. split_remains p limits k) in
    let up = uplink_counted p.uplink d limits.coded in
    let sync = sync_counted p.offsets d limits.apart limits.low in
    omega arith

-- each offset takes 64 of 10,240 subframes
sync_day : (os : List ℕ) → every (λ o. ltb o 160) os ≡ true → sync_before os 10240 ≡ 64 * length os
unfolding sync_before
sync_day [] low = refl
sync_day (o ∷ os) low =
    let l = and_parts _ _ low in
    let h = ltb-true o 160 l.0 in
    let rest = sync_day os l.1 in
    let both = sum_by-cons (λ o. (10240 + 159 - o) / 160) o os in
    omega arith

-- R is 1,024 for each uplink position less 64 for each offset
pub remaining_closed : (p : Pool) → Limits p → remaining p + 64 * length p.offsets ≡ 1024 * length (positions p.uplink)
unfolding remaining uplink_before
remaining_closed p limits =
    let r = rank_closed p limits 10240 in
    let s = sync_day p.offsets limits.low in
    omega arith

pub remaining_bounds : (p : Pool) → Limits p → (832 ≤ remaining p) × (remaining p ≤ 10240)
remaining_bounds p limits =
    let r = remaining_closed p limits in
    let few = some_position p.uplink limits.coded in
    let short = limits.short in
    (omega arith, omega arith)
