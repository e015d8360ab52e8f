-- A selection from what was found, needed and heard. Assumes nothing.
use Rattle.std.proofs.Common.{Option, ◌≡◌, ℕ, ◌<◌, ◌≤◌, true, ◌&&◌, ltb, leb, List, length, Ok, Err, Result, refl, inl, arith}
use Rattle.std.proofs.lemmas.Bool.{and_parts, leb-true, ltb-true}
use Rattle.answer.specs.Numbers.{number}
use Rattle.answer.specs.declared.Refusal.{Refusal}
use Rattle.answer.proofs.Some.{number_some}
use Rattle.rules.specs.Calendar.{Pool}
use Rattle.rules.specs.Choose.{Question, candidates, interval, choose_questions}
use Rattle.rules.specs.Configure.{within}
use Rattle.rules.specs.Counting.{first_no}
use Rattle.rules.specs.Sensing.{Meaning, Sound}
use Rattle.rules.proofs.Configured.{all_yes}
use Rattle.rules.proofs.Limits.{limits}
use Rattle.rules.proofs.Lists.{every_at}
use Rattle.choosing.specs.Asked.{question_of}
use Rattle.choosing.specs.Fits.{Fit}
use Rattle.choosing.specs.Found.{slots_of, Listed}
use Rattle.choosing.specs.declared.Candidates.{Candidates}
use Rattle.choosing.specs.declared.Question.{Question as Asked}
use Rattle.measuring.specs.Means.{MeansAre}
use Rattle.measuring.specs.declared.Mean.{Mean}
use Rattle.reserving.specs.Needs.{NeedsAre}
use Rattle.reserving.specs.declared.Need.{Need}
use Rattle.selecting.specs.Chosen.{Selected, Chosen}
use Rattle.selecting.specs.Lists.{rows_of}
use Rattle.selecting.specs.declared.Report.{Report}
use Rattle.selecting.proofs.Answered.{answers, refuses}
use Rattle.selecting.proofs.Listed.{rows_are, rows_told, rows_set}

-- what a question that passes every question before 41 keeps
pub record Passed (p : Pool) (now : ℕ) (q : Question) : Type 0 where
  pub some : 1 ≤ q.length
  pub few : q.length ≤ p.channels
  pub priority : q.priority ≤ 7
  pub candidate : 0 < length (candidates p now q)

pub passed : (p : Pool) (now : ℕ) (q : Question) → first_no (choose_questions p now q) ≡ 0 → Passed p now q
passed p now q e =
    let qs = choose_questions p now q in
    let said = all_yes qs refl e in
    let wide : (leb 1 q.length && leb q.length p.channels) ≡ true = every_at (λ x. x.0) qs (true, 0) said 0 (omega arith) in
    let rank : leb q.priority 7 ≡ true = every_at (λ x. x.0) qs (true, 0) said 3 (omega arith) in
    let many : ltb 0 (length (candidates p now q)) ≡ true = every_at (λ x. x.0) qs (true, 0) said 5 (omega arith) in
    let w = and_parts (leb 1 q.length) (leb q.length p.channels) wide in
    record { some = leb-true _ _ w.0; few = leb-true _ _ w.1; priority = leb-true _ _ rank; candidate = ltb-true _ _ many }

pub stopped : (p : Pool) (now : ℕ) (m : Meaning) (q : Question) (e : Refusal) → first_no (choose_questions p now q) ≡ number e → Chosen p now m q (Err e)
stopped p now m q e is = inl (is, λ z. let n = number_some e in omega arith)

module _ (p : Pool) (now : ℕ) (m : Meaning) (good : within p ≡ true) (sound : Sound m) (fit : Fit p m) (asked : Asked) (c : Candidates) (found : Listed p now (question_of asked) c) (needs : List (List Need)) (means : List (List (Option Mean))) (apart : ℕ) (far : apart ≡ interval p (question_of asked)) (needed : NeedsAre p m (question_of asked) (slots_of c) needs) (heard : MeansAre p m (question_of asked) (slots_of c) means) where
  pub chosen : (r : Result Report Refusal) → Selected (rows_of (slots_of c) c.width needs means (length (slots_of c))) asked apart r → Chosen p now m (question_of asked) r
  chosen (Ok r) w =
      let q = question_of asked in
      let k = passed p now q found.answer in
      let es = rows_of (slots_of c) c.width needs means (length (slots_of c)) in
      let l = limits p good in
      answers p now m q good sound fit found.answer k.candidate es
      (rows_are p now q (slots_of c) c.width needs means found.slots found.width)
      (rows_told p now m q (slots_of c) c.width needs means found.width k.few k.some l.few needed heard)
      (rows_set p now q (slots_of c) c.width needs means found.slots)
      asked apart r refl far w
  chosen (Err e) w =
      let q = question_of asked in
      let k = passed p now q found.answer in
      let es = rows_of (slots_of c) c.width needs means (length (slots_of c)) in
      let l = limits p good in
      refuses p now m q good sound fit found.answer k.candidate es
      (rows_are p now q (slots_of c) c.width needs means found.slots found.width)
      (rows_told p now m q (slots_of c) c.width needs means found.width k.few k.some l.few needed heard)
      (rows_set p now q (slots_of c) c.width needs means found.slots)
      asked apart e w
