-- What a selection over the list of all candidates answers, by the definitions. Assumes nothing.
use Rattle.std.proofs.Common.{◌≡◌, ℕ, ◌<◌, ◌≤◌, true, false, List, map, length, take, Ok, Err, filter, sym, ap, ◌∙◌, subst, inr, arith}
use Rattle.std.specs.List.{AllByRecursion}
use Rattle.std.proofs.ByRecursion.{All-map, All-take, all_kept_by, all_shuffled}
use Rattle.answer.specs.declared.Refusal.{Refusal}
use Rattle.rules.specs.Calendar.{Pool}
use Rattle.rules.specs.Choose.{Question, candidates, enough, interval, choose_questions, fifth}
use Rattle.rules.specs.ChooseLaws.{FairWindow}
use Rattle.rules.specs.Configure.{within}
use Rattle.rules.specs.Counting.{first_no}
use Rattle.rules.specs.Reports.{Reported}
use Rattle.rules.specs.Sensing.{Meaning, Sound, Fair}
use Rattle.rules.proofs.Enough.{never}
use Rattle.rules.proofs.Reports.{report_law}
use Rattle.choosing.specs.Asked.{question_of}
use Rattle.choosing.specs.Fits.{Fit}
use Rattle.choosing.specs.declared.Question.{Question as Asked}
use Rattle.selecting.specs.Chosen.{Selected, Chosen, Answers, SetSubframe}
use Rattle.selecting.specs.Entries.{candidate_of, reported}
use Rattle.selecting.specs.Lifts.{NoneBelow}
use Rattle.selecting.specs.Lists.{free}
use Rattle.selecting.specs.Made.{shown}
use Rattle.selecting.specs.declared.Entry.{Entry}
use Rattle.selecting.specs.declared.Report.{Report}
use Rattle.selecting.proofs.Told.{Told, enough_told, report_told}

-- what a memory that fits holds in the window is within its limits
pub fair_window : (p : Pool) (m : Meaning) → Sound m → Fit p m → FairWindow p m
fair_window p m s fit z a h low high below e =
    let n = fit.channels in
    let w = fit.window in
    let old = s.old in
    subst (λ k. Fair k a h) n (s.fair z a h (omega arith, omega arith) (omega arith) e)

module _ (p : Pool) (now : ℕ) (m : Meaning) (q : Question) (good : within p ≡ true) (sound : Sound m) (fit : Fit p m) (questions : first_no (choose_questions p now q) ≡ 0) (some : 0 < length (candidates p now q)) (es : List Entry) (all : map candidate_of es ≡ candidates p now q) (told : AllByRecursion (Told p now m q) es) (set : AllByRecursion (λ e. SetSubframe p (reported e)) es) where
  none_enough : (n : ℕ) → n ≤ 44 → NoneBelow es n → (r : ℕ) → r < n → enough p now m q r ≡ false
  none_enough n low h r l = enough_told p now m q es all told r (omega arith) ∙ h r l

  pub answers : (asked : Asked) (apart : ℕ) (r : Report) → question_of asked ≡ q → apart ≡ interval p q → Selected es asked apart (Ok r) → Answers p now m q r
  answers asked apart r same far w =
      let low = w.0 in
      let leave = enough_told p now m q es all told r.raise low ∙ w.1 in
      let made = w.3 in
      let are = report_told p now m q es all told r.raise low asked apart r made in
      let order = made.order in
      let kept = filter (free r.raise) es in
      let sub : Entry → Type 0 = λ e. SetSubframe p (reported e) in
      let first = take (fifth (length es)) order in
      let right : AllByRecursion sub first = All-take sub (fifth (length es)) order (all_shuffled sub kept order made.shuffled (all_kept_by (free r.raise) sub es set)) in
      record {
        questions = questions;
        fewest = record { leaves = leave; least = none_enough r.raise (omega arith) w.2 };
        places = are;
        law = subst (Reported p now m q r.raise) (sym are) (report_law p now m q r.raise good some leave);
        subframes = all_shuffled (SetSubframe p) (map reported first) (shown r) made.first.places (All-map (SetSubframe p) reported first right);
        marked = made.first.marked;
        question = ap question_of made.first.question_is ∙ same;
        apart = made.first.apart_is ∙ far;
      }

  pub refuses : (asked : Asked) (apart : ℕ) (e : Refusal) → Selected es asked apart (Err e) → Chosen p now m q (Err e)
  refuses asked apart e w =
      inr (questions, w.0, never p now m q (fair_window p m sound fit) (none_enough 44 (omega arith) w.1 43 (omega arith)))
