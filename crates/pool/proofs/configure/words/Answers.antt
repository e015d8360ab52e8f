use Rattle.std.proofs.Common.{◌≡◌, ℕ, zero, suc, ◌^◌, ◌<◌, List, [], ◌∷◌, length, get_or, arith, rules}
use Rattle.std.proofs.lemmas.List.{get_or_past}
use Rattle.rules.proofs.Bitmaps.{Holds, four, words_at}
use Rattle.pool.proofs.configure.words.Goals as goal

-- the last byte, and zeros for the bytes that there are not
last_four : (w : ℕ) (bs : List ℕ) → length bs ≡ 13 → Holds w (get_or bs 12 0 ∷ 0 ∷ 0 ∷ 0 ∷ []) → Holds w (four bs 3)
last_four w bs long h = rw (get_or_past bs 13 0 (omega arith), get_or_past bs 14 0 (omega arith), get_or_past bs 15 0 (omega arith)) h

holds : (c : goal.After-word-4) → (j : ℕ) → j < 4 → Holds (get_or (c.word.result ∷ c.word-2.result ∷ c.word-3.result ∷ c.word-4.result ∷ []) j 0) (four c.args.b.now j)
holds c zero h = c.word.ensures
holds c (suc zero) h = c.word-2.ensures
holds c (suc (suc zero)) h = c.word-3.ensures
holds c (suc (suc (suc zero))) h = last_four c.word-4.result c.args.b.now (search rules) c.word-4.ensures
holds c (suc (suc (suc (suc j)))) h = absurd (omega arith)

-- each of four words fits
all_fit : (a b c d : ℕ) → a < 2 ^ 32 → b < 2 ^ 32 → c < 2 ^ 32 → d < 2 ^ 32 → (k : ℕ) → get_or (a ∷ b ∷ c ∷ d ∷ []) k 0 < 2 ^ 32
all_fit a b c d p q r s zero = p
all_fit a b c d p q r s (suc zero) = q
all_fit a b c d p q r s (suc (suc zero)) = r
all_fit a b c d p q r s (suc (suc (suc zero))) = s
all_fit a b c d p q r s (suc (suc (suc (suc k)))) = omega arith

pub returns : goal.returns
returns c =
    record {
      same = words_at (c.word.result ∷ c.word-2.result ∷ c.word-3.result ∷ c.word-4.result ∷ []) c.args.b.now (holds c);
      fits = all_fit _ _ _ _ c.word.type_inv c.word-2.type_inv c.word-3.type_inv c.word-4.type_inv;
    }
