-- Marks that are added up. Assumes nothing.
use Rattle.std.proofs.Common.{◌≡◌, ℕ, zero, suc, ◌+◌, Bool, true, false, ◌||◌, List, get_or, sym, refl, ap, ◌∙◌, add-zero, add-one, arith}
use Rattle.std.specs.List.{range_with_len}
use Rattle.std.proofs.Math.Bool.{or_assoc, or-false}
use Rattle.rules.specs.Counting.{any}
use Rattle.rules.specs.Sensing.{Cell, blank, listened, sent, Mark, is_blank, is_listened, is_sent, mark, listened?}
use Rattle.sensing.specs.Memories.{mark_of}
use Rattle.sensing.specs.declared.State.{State}
use Rattle.sensing.specs.declared.State.TheVariants.{Blank, Listened, Sent}
use Rattle.choosing.specs.Blinds.{Marked}
use Rattle.choosing.specs.Fits.{index_of}
use Rattle.choosing.specs.declared.Slot.{Slot}

more : (f : ℕ → Bool) (a n : ℕ) → any f (range_with_len a (suc n)) ≡ (any f (range_with_len a n) || f (a + n))
more f a zero = or-false (f a) ∙ ap f (sym (add-zero a))
more f a (suc n) =
    let same : a + 1 + n ≡ a + suc n = omega arith in
    ap (λ b. f a || b) (more f (a + 1) n ∙ ap (λ i. any f (range_with_len (a + 1) n) || f i) same) ∙ sym (or_assoc (f a) (any f (range_with_len (a + 1) n)) (f (a + suc n)))

pub any_more : (f : ℕ → Bool) (a n i : ℕ) → i ≡ a + n → any f (range_with_len a (n + 1)) ≡ (any f (range_with_len a n) || f i)
any_more f a n i e = ap (λ m. any f (range_with_len a m)) (add-one n) ∙ more f a n ∙ ap (λ j. any f (range_with_len a n) || f j) (sym e)

module _ (slots : List Slot) where
  pub marked_same : (f h : ℕ → Bool) (xs ys : List Bool) → ((y : ℕ) → h y ≡ f y) → Marked slots f xs ys → Marked slots h xs ys
  marked_same f h xs ys e p i l = p i l ∙ ap (λ b. get_or xs i false || b) (sym (e (index_of slots i)))

  pub marked_none : (h : ℕ → Bool) (xs : List Bool) → ((y : ℕ) → h y ≡ false) → Marked slots h xs xs
  marked_none h xs e i l = sym (ap (λ b. get_or xs i false || b) (e (index_of slots i)) ∙ or-false (get_or xs i false))

  -- marks by the tests of n numbers from a on, and then by the test of the next number i
  pub marked_more : (f : ℕ → ℕ → Bool) (a n m i : ℕ) (xs ys zs : List Bool) → i ≡ a + n → m ≡ n + 1 → Marked slots (λ y. any (λ k. f k y) (range_with_len a n)) xs ys → Marked slots (f i) ys zs → Marked slots (λ y. any (λ k. f k y) (range_with_len a m)) xs zs
  marked_more f a n m i xs ys zs e e' p q j l =
      let y = index_of slots j in
      let so_far = any (λ k. f k y) (range_with_len a n) in
      q j l
      ∙ ap (λ b. b || f i y) (p j l)
      ∙ or_assoc (get_or xs j false) so_far (f i y)
      ∙ ap (λ b. get_or xs j false || b) (sym (any_more (λ k. f k y) a n i e) ∙ ap (λ t. any (λ k. f k y) (range_with_len a t)) (sym e'))

-- a state that is not Listened says so of the cell
pub not_listened : (c : Cell) (s : State) → mark_of s ≡ mark c → (s ≡ Listened → ⊥) → listened? c ≡ false
not_listened blank s e ne = refl
not_listened sent s e ne = refl
not_listened (listened rs) Blank e ne = let z : ◌≡◌ {A = ℕ} 0 1 = cc in absurd (omega arith)
not_listened (listened rs) Listened e ne = absurd (ne refl)
not_listened (listened rs) Sent e ne = let z : ◌≡◌ {A = ℕ} 0 1 = cc in absurd (omega arith)

pub is_listened_cell : (c : Cell) (s : State) → mark_of s ≡ mark c → s ≡ Listened → listened? c ≡ true
is_listened_cell blank s e is = let z : ◌≡◌ {A = Mark} is_listened is_blank = sym (ap mark_of is) ∙ e in let z' : ◌≡◌ {A = ℕ} 0 1 = cc in absurd (omega arith)
is_listened_cell sent s e is = let z : ◌≡◌ {A = Mark} is_listened is_sent = sym (ap mark_of is) ∙ e in let z' : ◌≡◌ {A = ℕ} 0 1 = cc in absurd (omega arith)
is_listened_cell (listened rs) s e is = refl
