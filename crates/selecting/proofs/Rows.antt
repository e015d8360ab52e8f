-- The entries of all slots, one slot more. Assumes nothing.
use Rattle.std.proofs.Common.{◌≡◌, ℕ, ◌+◌, List, [], ◌∷◌, ◌++◌, get_or, drop, sym, ap, ◌∙◌, add-zero, arith}
use Rattle.std.specs.List.{range_with_len, flat_map}
use Rattle.std.proofs.lemmas.List.{drop-drop, flat_map_more, get_or-drop, map-id}
use Rattle.std.proofs.lemmas.List.FromFn.{map-range_with_len_more}

-- numbers counted from 0, and one more
counting_more : (n : ℕ) → range_with_len 0 (n + 1) ≡ range_with_len 0 n ++ n ∷ []
counting_more n =
    sym (map-id (range_with_len 0 (n + 1))) ∙ map-range_with_len_more (λ (i : ℕ). i) 0 n n (omega arith) ∙ ap (λ xs. xs ++ n ∷ []) (map-id (range_with_len 0 n))

pub rows_more : {X : Type 0} (f : ℕ → List X) (n : ℕ) → flat_map f (range_with_len 0 (n + 1)) ≡ flat_map f (range_with_len 0 n) ++ f n
rows_more f n = ap (flat_map f) (counting_more n) ∙ sym (flat_map_more f [] (range_with_len 0 n) n)

-- the next element of what is left of a list, and what is left behind it
pub turn : {A : Type 0} (xs rest left : List A) (x : A) (n : ℕ) → left ≡ drop n xs → left ≡ x ∷ rest → ((d : A) → x ≡ get_or xs n d) × (rest ≡ drop (n + 1) xs)
turn xs rest left x n e h =
    let z = add-zero n in
    let same : drop n xs ≡ x ∷ rest = sym e ∙ h in (
      (λ d. sym (ap (λ ys. get_or ys 0 d) same) ∙ get_or-drop n xs 0 d ∙ ap (λ k. get_or xs k d) z),
      sym (ap (drop 1) same) ∙ drop-drop 1 n xs,
    )
