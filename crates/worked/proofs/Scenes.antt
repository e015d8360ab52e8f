-- The worked selections hold: antt computes them, each by itself. Assumes nothing.
use Rattle.std.proofs.Common.{◌≡◌, ℕ, ◌*◌, Bool, true, false, cond, leb, length, get_or, take, ℤ, negsuc, Some, None, filter, sym, refl, ap, ◌∙◌, subst, arith}
use Rattle.rules.specs.Calendar.{step, window, distance, allowed}
use Rattle.rules.specs.ChooseLaws.{FairHeld}
use Rattle.rules.specs.Format.{Within}
use Rattle.rules.specs.Sensing.{Meaning, Fair, rsrp_ok}
use Rattle.rules.specs.Choose.{candidates, blinded, reserved_at, survives, survivors, enough, mean, ahead, earlier, ordered, fifth, report}
use Rattle.rules.proofs.Enough.{never, fewest, at_once}
use Rattle.rules.proofs.Raises.{fair_window}
use Rattle.worked.specs.Scenes.{yard, ask, quiet, deaf, crowd, plain, origin, Scenes}
use Rattle.worked.proofs.Yard.{places, candidates_are}

-- the survivors among the places in question
survivors_are : (level : ℕ) (m : Meaning) (raise : ℕ) → survivors (yard level) 31000 m ask raise ≡ filter (survives (yard level) m ask raise) (places level)
unfolding survivors
survivors_are level m raise = ap (filter (survives (yard level) m ask raise)) (candidates_are level)

enough_is : (level : ℕ) (m : Meaning) (raise : ℕ) → enough (yard level) 31000 m ask raise ≡ leb (length (places level)) (5 * length (filter (survives (yard level) m ask raise) (places level)))
enough_is level m raise =
    ap (λ xs. leb (length xs) (5 * length (survivors (yard level) 31000 m ask raise))) (candidates_are level)
    ∙ ap (λ xs. leb (length (places level)) (5 * length xs)) (survivors_are level m raise)

many : length (candidates (yard 10) 31000 ask) ≡ 51
many = ap length (candidates_are 10)

thirteen : length (survivors (yard 10) 31000 (deaf 30917) ask 0) ≡ 12
unfolding blinded reserved_at distance step window allowed
thirteen = ap length (survivors_are 10 (deaf 30917) 0)

quiet_enough : enough (yard 10) 31000 quiet ask 0 ≡ true
unfolding blinded reserved_at distance step window allowed
quiet_enough = enough_is 10 quiet 0

quiet_report : report (yard 10) 31000 quiet ask 0 ≡ ordered earlier (take 11 (ordered (ahead (yard 10) quiet ask) (filter (survives (yard 10) quiet ask 0) (places 10))))
unfolding report
quiet_report =
    ap (λ xs. ordered earlier (take (fifth (length xs)) (ordered (ahead (yard 10) quiet ask) (survivors (yard 10) 31000 quiet ask 0)))) (candidates_are 10)
    ∙ ap (λ xs. ordered earlier (take 11 (ordered (ahead (yard 10) quiet ask) xs))) (survivors_are 10 quiet 0)

quiet_size : length (report (yard 10) 31000 quiet ask 0) ≡ 11
unfolding blinded reserved_at distance step window allowed mean
quiet_size = ap length quiet_report

quiet_last : get_or (report (yard 10) 31000 quiet ask 0) 10 origin ≡ record { channel = 1; at = 31007 }
unfolding blinded reserved_at distance step window allowed mean
quiet_last = ap (λ xs. get_or xs 10 origin) quiet_report

deaf_43 : enough (yard 10) 31000 (deaf 30918) ask 43 ≡ false
unfolding blinded reserved_at distance step window allowed
deaf_43 = enough_is 10 (deaf 30918) 43

three_yes : enough (yard 10) 31000 (crowd (negsuc 1009)) ask 3 ≡ true
unfolding blinded reserved_at distance step window allowed
three_yes = enough_is 10 (crowd (negsuc 1009)) 3

three_no : enough (yard 10) 31000 (crowd (negsuc 1009)) ask 2 ≡ false
unfolding blinded reserved_at distance step window allowed
three_no = enough_is 10 (crowd (negsuc 1009)) 2

four_yes : enough (yard 10) 31000 (crowd (negsuc 1008)) ask 4 ≡ true
unfolding blinded reserved_at distance step window allowed
four_yes = enough_is 10 (crowd (negsuc 1008)) 4

four_no : enough (yard 10) 31000 (crowd (negsuc 1008)) ask 3 ≡ false
unfolding blinded reserved_at distance step window allowed
four_no = enough_is 10 (crowd (negsuc 1008)) 3

lowest_43 : enough (yard 0) 31000 (crowd (negsuc 1009)) ask 43 ≡ false
unfolding blinded reserved_at distance step window allowed
lowest_43 = enough_is 0 (crowd (negsuc 1009)) 43

highest_yes : enough (yard 66) 31000 (crowd (negsuc 1009)) ask 0 ≡ true
unfolding blinded reserved_at distance step window allowed
highest_yes = enough_is 66 (crowd (negsuc 1009)) 0

-- the records of the crowd are within their limits
plain_within : Within 3 plain
plain_within =
    record {
      priority = omega arith;
      code = omega arith;
      some = omega arith;
      inside = omega arith;
      gap = omega arith;
      mcs = omega arith;
      again = omega arith;
    }

fair_crowd : (level : ℕ) (x : ℤ) → rsrp_ok x ≡ true → FairHeld (yard level) (crowd x)
fair_crowd level x ok z a h below e =
    let one : (b c : Bool) → cond b (cond c (Some (record { what = plain; rsrp = x })) None) None ≡ Some h → h ≡ record { what = plain; rsrp = x } = here in
    let same = one (leb 30904 z) (leb z 30920) e in
    subst (Fair 3 a) (sym same) (record { within = plain_within; inside = omega arith; rsrp = ok })
  where
    here : (b c : Bool) → cond b (cond c (Some (record { what = plain; rsrp = x })) None) None ≡ Some h → h ≡ record { what = plain; rsrp = x }
    here true true e = cc
    here true false e = let n : ◌≡◌ {A = ℕ} 0 1 = cc in absurd (omega arith)
    here false c e = let n : ◌≡◌ {A = ℕ} 0 1 = cc in absurd (omega arith)

fair_deaf : (n : ℕ) → FairHeld (yard 10) (deaf n)
fair_deaf n z a h below e = let z : ◌≡◌ {A = ℕ} 0 1 = cc in absurd (omega arith)

pub scenes : Scenes
scenes =
    record {
      many = many;
      quiet_raise = at_once (yard 10) 31000 quiet ask quiet_enough;
      quiet_size = quiet_size;
      quiet_last = quiet_last;
      thirteen = thirteen;
      fourteen = never (yard 10) 31000 (deaf 30918) ask (fair_window (yard 10) (deaf 30918) (fair_deaf 30918)) deaf_43;
      three = fewest (yard 10) 31000 (crowd (negsuc 1009)) ask 2 three_yes three_no;
      four = fewest (yard 10) 31000 (crowd (negsuc 1008)) ask 3 four_yes four_no;
      lowest = never (yard 0) 31000 (crowd (negsuc 1009)) ask (fair_window (yard 0) (crowd (negsuc 1009)) (fair_crowd 0 (negsuc 1009) refl)) lowest_43;
      highest = at_once (yard 66) 31000 (crowd (negsuc 1009)) ask highest_yes;
    }
