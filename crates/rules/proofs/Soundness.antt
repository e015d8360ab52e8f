-- What holds of every memory holds on after each of its calls. Assumes nothing.
use Rattle.std.proofs.Common.{◌≡◌, ℕ, ◌<◌, ◌≤◌, true, List, Some, None, Option, sym, refl, ap, ◌∙◌, subst, ⊎_elim, arith}
use mathlib.Core.Bool.{Bool-set}
use mathlib.Core.Logic.{∥∥₁_elim}
use native.Mathlib.Bridge.{le_prop}
use Rattle.std.proofs.lemmas.Bool.{cases_lt, cases_eq}
use Rattle.rules.specs.Sensing.{Meaning, Held, Cell, blank, listened, sent, Inside, Sound, Fair, Moved, Added, Changed, readings_ok, held_count}

-- a memory of which it is known only that it is sound: each of the facts has one proof at most
fair_from : (n a : ℕ) (h : Held) → ∥ Fair n a h ∥₁ → Fair n a h
fair_from n a h t =
    record {
      within = record {
        priority = ∥∥₁_elim t le_prop (λ f. f.within.priority);
        code = ∥∥₁_elim t le_prop (λ f. f.within.code);
        some = ∥∥₁_elim t le_prop (λ f. f.within.some);
        inside = ∥∥₁_elim t le_prop (λ f. f.within.inside);
        gap = ∥∥₁_elim t le_prop (λ f. f.within.gap);
        mcs = ∥∥₁_elim t le_prop (λ f. f.within.mcs);
        again = ∥∥₁_elim t le_prop (λ f. f.within.again);
      };
      inside = ∥∥₁_elim t le_prop (λ f. f.inside);
      rsrp = ∥∥₁_elim t (Bool-set _ _) (λ f. f.rsrp);
    }

none_from : (o : Option Held) → ∥ (o ≡ None) ∥₁ → o ≡ None
none_from None t = refl
none_from (Some h) t = absurd (∥∥₁_elim t (λ x y. absurd x) (λ (e : Some h ≡ None). let z : ◌≡◌ {A = ℕ} 0 1 = cc in omega arith))

pub sound_from : (m : Meaning) → ∥ Sound m ∥₁ → Sound m
sound_from m t =
    record {
      some = ∥∥₁_elim t le_prop (λ s. s.some);
      few = ∥∥₁_elim t le_prop (λ s. s.few);
      short = ∥∥₁_elim t le_prop (λ s. s.short);
      old = ∥∥₁_elim t le_prop (λ s. s.old);
      roomy = ∥∥₁_elim t le_prop (λ s. s.roomy);
      heard = λ i rs w e. ∥∥₁_elim t (Bool-set _ _) (λ s. s.heard i rs w e);
      fair = λ i a h w l e. fair_from m.channels a h (∥∥₁_elim t squash₁ (λ s. ∣ s.fair i a h w l e ∣₁));
      bare = λ i a w l e. none_from (m.held i a) (∥∥₁_elim t squash₁ (λ s. ∣ s.bare i a w l e ∣₁));
      room = ∥∥₁_elim t le_prop (λ s. s.room);
    }

some_none : {h : Held} (o : Option Held) → o ≡ Some h → o ≡ None → ⊥
some_none o e f = let z : ◌≡◌ {A = ℕ} 0 1 = cc in omega arith

blank_listened : (c : Cell) (rs : List ℕ) → c ≡ blank → c ≡ listened rs → ⊥
blank_listened c rs e f = let z : ◌≡◌ {A = ℕ} 0 1 = cc in omega arith

blank_sent : (c : Cell) → c ≡ blank → c ≡ sent → ⊥
blank_sent c e f = let z : ◌≡◌ {A = ℕ} 0 1 = cc in omega arith

sent_listened : (c : Cell) (rs : List ℕ) → c ≡ sent → c ≡ listened rs → ⊥
sent_listened c rs e f = let z : ◌≡◌ {A = ℕ} 0 1 = cc in omega arith

listened_one : (rs ks : List ℕ) → listened rs ≡ listened ks → rs ≡ ks
listened_one rs ks e = cc

some_one : (h k : Held) → Some h ≡ Some k → h ≡ k
some_one h k e = cc

-- a slide forward
pub moved_sound : (m : Meaning) (n : ℕ) (m' : Meaning) → Sound m → m.next ≤ n → Moved m n m' → held_count m' ≤ m'.places → Sound m'
moved_sound m n m' s on d room =
    let N = d.frame.channels in
    let W = d.frame.window in
    let R = d.frame.places in
    let X = d.frame.next in
    let was : (i : ℕ) → Inside m' i → i ≤ m.next → Inside m i = λ i w l. (omega (arith, w.0), l) in
    record {
      some = omega (arith, s.some);
      few = omega (arith, s.few);
      short = omega (arith, s.short);
      old = omega (arith, s.old);
      roomy = omega (arith, s.roomy);
      heard = λ i rs w e.
          ⊎_elim
          (λ (l : m.next < i). absurd (blank_listened (m'.cell i) rs (d.fresh i w l) e))
          (λ (l : i ≤ m.next). subst (λ k. readings_ok k rs ≡ true) (sym N) (s.heard i rs (was i w l) (sym (d.cells i w l) ∙ e)))
          (cases_lt m.next i);
      fair = λ i a h w b e.
          let c : a < m.channels = omega arith in
          ⊎_elim
          (λ (l : m.next < i). absurd (some_none (m'.held i a) e (d.clear i a w l c)))
          (λ (l : i ≤ m.next). subst (λ k. Fair k a h) (sym N) (s.fair i a h (was i w l) c (sym (d.records i a w l c) ∙ e)))
          (cases_lt m.next i);
      bare = λ i a w b e.
          let c : a < m.channels = omega arith in
          ⊎_elim
          (λ (l : m.next < i). d.clear i a w l c)
          (λ (l : i ≤ m.next). d.records i a w l c ∙ s.bare i a (was i w l) c (sym (d.cells i w l) ∙ e))
          (cases_lt m.next i);
      room = room;
    }

-- one record more, at an index that was not sent in
pub added_sound : (m : Meaning) (i a : ℕ) (h : Held) (m' : Meaning) → Sound m → Fair m.channels a h → (m.cell i ≡ sent → ⊥) → Added m i a h m' → held_count m' ≤ m'.places → Sound m'
added_sound m i a h m' s fair quiet d room =
    let N = d.frame.channels in
    let W = d.frame.window in
    let R = d.frame.places in
    let X = d.frame.next in
    let was : (j : ℕ) → Inside m' j → Inside m j = λ j w. (omega (arith, w.0), omega (arith, w.1)) in
    record {
      some = omega (arith, s.some);
      few = omega (arith, s.few);
      short = omega (arith, s.short);
      old = omega (arith, s.old);
      roomy = omega (arith, s.roomy);
      heard = λ j rs w e. subst (λ k. readings_ok k rs ≡ true) (sym N) (s.heard j rs (was j w) (sym (d.cells j (was j w)) ∙ e));
      fair = λ j b k w l e.
          let c : b < m.channels = omega arith in
          let away : ((j ≡ i) × (b ≡ a) → ⊥) → Fair m.channels b k = λ ne. s.fair j b k (was j w) c (sym (d.others j b (was j w) c ne) ∙ e) in
          let here : j ≡ i → b ≡ a → Fair m.channels b k = λ p q.
          let same : h ≡ k = some_one h k (sym d.here ∙ ap (λ x. m'.held x a) (sym p) ∙ ap (m'.held j) (sym q) ∙ e) in
          subst (λ x. Fair m.channels b x) same (subst (λ x. Fair m.channels x h) (sym q) fair) in
          subst
          (λ x. Fair x b k)
          (sym N)
          (⊎_elim (λ p. ⊎_elim (here p) (λ ne. away (λ both. ne both.1)) (cases_eq b a)) (λ ne. away (λ both. ne both.0)) (cases_eq j i));
      bare = λ j b w l e.
          let c : b < m.channels = omega arith in
          let still : m.cell j ≡ sent = sym (d.cells j (was j w)) ∙ e in
          d.others j b (was j w) c (λ both. quiet (ap m.cell (sym both.0) ∙ still)) ∙ s.bare j b (was j w) c still;
      room = room;
    }

-- another cell: one with readings that may stand there, or one that says sent where no record is held
changed_sound : (m : Meaning) (i : ℕ) (c : Cell) (m' : Meaning) → Sound m → ((rs : List ℕ) → c ≡ listened rs → readings_ok m.channels rs ≡ true) → (c ≡ sent → (a : ℕ) → a < m.channels → m.held i a ≡ None) → Changed m i c m' → held_count m' ≤ m'.places → Sound m'
changed_sound m i c m' s ok none d room =
    let N = d.frame.channels in
    let W = d.frame.window in
    let R = d.frame.places in
    let X = d.frame.next in
    let was : (j : ℕ) → Inside m' j → Inside m j = λ j w. (omega (arith, w.0), omega (arith, w.1)) in
    record {
      some = omega (arith, s.some);
      few = omega (arith, s.few);
      short = omega (arith, s.short);
      old = omega (arith, s.old);
      roomy = omega (arith, s.roomy);
      heard = λ j rs w e.
          subst
          (λ k. readings_ok k rs ≡ true)
          (sym N)
          (⊎_elim
          (λ p. ok rs (sym d.here ∙ ap m'.cell (sym p) ∙ e))
          (λ ne. s.heard j rs (was j w) (sym (d.others j (was j w) ne) ∙ e))
          (cases_eq j i));
      fair = λ j a h w l e.
          let b : a < m.channels = omega arith in
          subst (λ k. Fair k a h) (sym N) (s.fair j a h (was j w) b (sym (d.records j a (was j w) b) ∙ e));
      bare = λ j a w l e.
          let b : a < m.channels = omega arith in
          d.records j a (was j w) b
          ∙ ⊎_elim
          (λ p. ap (λ x. m.held x a) p ∙ none (sym d.here ∙ ap m'.cell (sym p) ∙ e) a b)
          (λ ne. s.bare j a (was j w) b (sym (d.others j (was j w) ne) ∙ e))
          (cases_eq j i);
      room = room;
    }

pub listened_sound : (m : Meaning) (i : ℕ) (rs : List ℕ) (m' : Meaning) → Sound m → readings_ok m.channels rs ≡ true → Changed m i (listened rs) m' → held_count m' ≤ m'.places → Sound m'
listened_sound m i rs m' s ok =
    changed_sound m i (listened rs) m' s
    (λ ks e. subst (λ l. readings_ok m.channels l ≡ true) (listened_one rs ks e) ok)
    (λ e. absurd (sent_listened (listened rs) rs e refl))

pub sent_sound : (m : Meaning) (i : ℕ) (m' : Meaning) → Sound m → ((a : ℕ) → a < m.channels → m.held i a ≡ None) → Changed m i sent m' → held_count m' ≤ m'.places → Sound m'
sent_sound m i m' s none = changed_sound m i sent m' s (λ rs e. absurd (sent_listened sent rs refl e)) (λ _. none)
