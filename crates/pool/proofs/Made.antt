-- Settings that pass every question make a pool that keeps its limits. Assumes nothing.
use Rattle.std.proofs.Common.{◌≡◌, ℕ, ◌%◌, ◌<◌, ◌≤◌, true, List, take, sym, ap, ◌∙◌, subst, arith}
use Rattle.std.proofs.lemmas.List.FromFn.{length-map-range_with_len}
use Rattle.rules.specs.Calendar.{Pool as Meaning, size, cycle}
use Rattle.rules.specs.Closed.{word_bit}
use Rattle.rules.specs.Configure.{byte_bit, configured, pool_of, within}
use Rattle.rules.proofs.Configured.{asked as all_asked, bits_same}
use Rattle.rules.proofs.Limits.{limits}
use Rattle.rules.proofs.Sets.{cycle_some, cycle_divides}
use Rattle.pool.specs.Meant.{meant}
use Rattle.pool.specs.Pools.{asked, SameBits}
use Rattle.pool.specs.declared.Bitmap.{Bitmap}
use Rattle.pool.specs.declared.Settings.{Settings}

abbrev made_of : Settings → ℕ → List ℕ → Meaning
made_of s n words = meant s.channels s.uplink s.used s.offsets n words s.intervals s.levels

pub record Made (s : Settings) (n : ℕ) (words : List ℕ) : Type 0 where
  pub few : s.used ≤ 3
  pub same : made_of s n words ≡ pool_of (asked s)
  pub limits : within (made_of s n words) ≡ true
  pub some : 0 < cycle (made_of s n words)
  pub whole : cycle (made_of s n words) % n ≡ 0

with_words : (s : Settings) (words : List ℕ) → ((i : ℕ) → i < 128 → word_bit words i ≡ byte_bit s.bitmap i) → configured (asked s) ≡ 0 → Made s s.size words
with_words s words bits e =
    let a = all_asked (asked s) e in
    let sized = a.sized in
    let equal = bits_same words s.bitmap s.size (omega arith) bits in
    let same : made_of s s.size words ≡ pool_of (asked s) =
    ap (λ b. record { channels = s.channels; uplink = s.uplink; offsets = take s.used s.offsets; bits = b; mask = s.intervals; levels = s.levels }) equal in
    let kept : within (made_of s s.size words) ≡ true = subst (λ p. within p ≡ true) (sym same) a.limits in
    let all = limits (made_of s s.size words) kept in
    let long : size (made_of s s.size words) ≡ s.size = length-map-range_with_len (word_bit words) 0 s.size in
    record {
      few = a.few;
      same = same;
      limits = kept;
      some = cycle_some (made_of s s.size words) all;
      whole = ap (λ b. cycle (made_of s s.size words) % b) (sym long) ∙ cycle_divides (made_of s s.size words) all;
    }

-- the pool with the bitmap of the settings
pub made : (s : Settings) (b : Bitmap) → SameBits s.size s.bitmap b → configured (asked s) ≡ 0 → Made s b.size b.words
made s b same e = subst (λ n. Made s n b.words) (sym same.length) (with_words s b.words same.bits e)
