-- Needs that are lifted, step by step. Assumes nothing.
use Rattle.std.proofs.Common.{◌≡◌, ℕ, ◌+◌, Bool, false, ◌||◌, List, get_or, sym, ap, ◌∙◌}
use Rattle.std.specs.List.{range_with_len}
use Rattle.std.proofs.Math.Bool.{or_assoc, or-false}
use Rattle.rules.specs.Choose.{Place}
use Rattle.rules.specs.Counting.{any}
use Rattle.choosing.proofs.Marking.{any_more}
use Rattle.choosing.specs.Fits.{place_of}
use Rattle.choosing.specs.declared.Slot.{Slot}
use Rattle.reserving.specs.Needs.{bars, at}
use Rattle.reserving.specs.declared.Need.{Need}
use Rattle.reserving.specs.declared.Need.TheVariants.{From}
use Rattle.reserving.specs.Lifts.{RowLifted, Lifted}

-- what is lifted by one test and then by another is lifted by the test that passes where one of them does
pub lifted_both : (slots : List Slot) (f g h : ℕ → Place → Bool) (xs ys zs : List (List Need)) → ((r : ℕ) (c : Place) → h r c ≡ (f r c || g r c)) → Lifted slots f xs ys → Lifted slots g ys zs → Lifted slots h xs zs
lifted_both slots f g h xs ys zs e p q i x r l k =
    let c = place_of slots i x in
    q i x r l k
    ∙ ap (λ b. b || g r c) (p i x r l k)
    ∙ or_assoc (bars (at xs i x) r) (f r c) (g r c)
    ∙ ap (λ b. bars (at xs i x) r || b) (sym (e r c))

pub lifted_same : (slots : List Slot) (f h : ℕ → Place → Bool) (xs ys : List (List Need)) → ((r : ℕ) (c : Place) → h r c ≡ f r c) → Lifted slots f xs ys → Lifted slots h xs ys
lifted_same slots f h xs ys e p i x r l k = p i x r l k ∙ ap (λ b. bars (at xs i x) r || b) (sym (e r (place_of slots i x)))

pub lifted_none : (slots : List Slot) (h : ℕ → Place → Bool) (xs : List (List Need)) → ((r : ℕ) (c : Place) → h r c ≡ false) → Lifted slots h xs xs
lifted_none slots h xs e i x r l k = sym (ap (λ b. bars (at xs i x) r || b) (e r (place_of slots i x)) ∙ or-false (bars (at xs i x) r))

-- what is lifted by the tests of n numbers from a on, and then by the test of the next number i
pub lifted_more : (slots : List Slot) (f : ℕ → ℕ → Place → Bool) (a n m i : ℕ) (xs ys zs : List (List Need)) → i ≡ a + n → m ≡ n + 1 → Lifted slots (λ r c. any (λ k. f k r c) (range_with_len a n)) xs ys → Lifted slots (f i) ys zs → Lifted slots (λ r c. any (λ k. f k r c) (range_with_len a m)) xs zs
lifted_more slots f a n m i xs ys zs e e' =
    lifted_both slots (λ r c. any (λ k. f k r c) (range_with_len a n)) (f i) (λ r c. any (λ k. f k r c) (range_with_len a m)) xs ys zs
    (λ r c. ap (λ t. any (λ k. f k r c) (range_with_len a t)) e' ∙ any_more (λ k. f k r c) a n i e)

-- the same of one row
pub row_same : (f h : ℕ → ℕ → Bool) (xs ys : List Need) → ((r x : ℕ) → h r x ≡ f r x) → RowLifted f xs ys → RowLifted h xs ys
row_same f h xs ys e p x r k = p x r k ∙ ap (λ b. bars (get_or xs x (From 0)) r || b) (sym (e r x))

pub row_none : (h : ℕ → ℕ → Bool) (xs : List Need) → ((r x : ℕ) → h r x ≡ false) → RowLifted h xs xs
row_none h xs e x r k = sym (ap (λ b. bars (get_or xs x (From 0)) r || b) (e r x) ∙ or-false (bars (get_or xs x (From 0)) r))
