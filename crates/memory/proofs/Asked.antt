-- What a memory answers, by what was examined. Assumes nothing.
use Rattle.std.proofs.Common.{◌≡◌, ℕ, true, false, List, length, ℤ, Ok, Err, Option, Result, sym, subst, arith, w16, SFits, to_z, of_z}
use Rattle.std.proofs.lemmas.Int.{to_z-of_z}
use Rattle.std.proofs.lemmas.Bool.{and_parts, eqb-true}
use Rattle.answer.specs.declared.Refusal.{Refusal}
use Rattle.answer.specs.Numbers.{number}
use Rattle.answer.proofs.Some.{number_some}
use Rattle.rules.specs.Sensing.{Meaning, Inside, readings_ok, readings_answer}
use Rattle.rules.proofs.Accepted.{readings_refused, readings_asked, readings_fine}
use Rattle.sensing.specs.declared.Held.{Held}
use Rattle.sensing.specs.declared.Kept.{Kept}
use Rattle.sensing.specs.declared.Kept.TheVariants.{New, Already}
use Rattle.sensing.specs.Memories.{kept, Examined, ExaminedReadings}

-- what is known of a record, for the RSRP as it came
pub as_examined : (m : Meaning) (i a : ℕ) (bytes : List ℕ) (rsrp : ℤ) (r s : Result (Option Held) Refusal) → SFits w16 rsrp → r ≡ s → Examined m i a bytes (to_z w16 (of_z w16 rsrp)) r → Examined m i a bytes rsrp s
as_examined m i a bytes rsrp r s fits same e =
    subst (Examined m i a bytes rsrp) same (subst (λ z. Examined m i a bytes z r) (to_z-of_z w16 rsrp fits) e)

module _ (m : Meaning) (i : ℕ) (rs : List ℕ) where
  pub readings_err : (e : Refusal) → ExaminedReadings m i rs (Err e) → number e ≡ readings_answer m i rs
  readings_err e is = sym (readings_refused m i rs (number e) is (λ z. omega (arith, number_some e)))

  pub readings_kept : (k : Kept) → ExaminedReadings m i rs (Ok k) → kept (Ok k) ≡ readings_answer m i rs
  readings_kept New is = sym (readings_asked m i rs false is.0 is.2)
  readings_kept Already is = sym (readings_asked m i rs true is.0 is.2)

  -- readings that are new: their index is inside, and they are as readings have to be
  pub readings_new : (k : Kept) → ExaminedReadings m i rs (Ok k) → k ≡ New → Inside m i × (readings_ok m.channels rs ≡ true) × (length rs ≡ m.channels)
  readings_new New is e = let fine = readings_fine m i rs is.0 in (is.1, fine, eqb-true _ _ (and_parts _ _ fine).0)
  readings_new Already is e = let z : ◌≡◌ {A = ℕ} 0 1 = cc in absurd (omega arith)
