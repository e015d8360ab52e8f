-- Each answer is the first question that is answered no, or the record.
use Rattle.std.proofs.Common.{◌≡◌, ◌-◌, Some, None, sym, refl, ap, ◌∙◌, arith, rules}
use Rattle.std.proofs.lemmas.Bool.{le-leb, lt-leb}
use Rattle.rules.specs.Format.{Four, pair, priority_of, code_of, riv_of, gap_of, mcs_of, again_of, rest_of, joined, fits}
use Rattle.answer.specs.declared.Refusal.TheVariants.{Code, Riv, Padding}
use Rattle.format1.proofs.Answering.{field_is, code_no, pair_no, rest_no, record_yes}
use Rattle.format1.proofs.read.Goals as goal

pub returns-then-code-gt12 : goal.returns-then-code-gt12
returns-then-code-gt12 c =
    let n = c.args.n in
    let bs = c.args.bytes in
    let code : c.take-code.result ≡ code_of (joined bs) = field_is _ _ _ _ _ _ _ c.take-code.ensures.value (cc) (omega arith) refl in
    let t = code_no n c.args.resource bs Code (omega arith) refl (omega arith) in
    record { answer = t.answer; value = t.value; exact = t.exact }

pub returns-in_default : goal.returns-in_default
returns-in_default c =
    let n = c.args.n in
    let bs = c.args.bytes in
    let code : c.take-code.result ≡ code_of (joined bs) = field_is _ _ _ _ _ _ _ c.take-code.ensures.value (cc) (omega arith) refl in
    let riv : c.take-riv.result ≡ riv_of n (joined bs) = field_is _ _ _ _ _ _ _ c.take-riv.ensures.value (cc) (omega arith) c.width_of-width.ensures.value in
    let none : pair n (riv_of n (joined bs)) ≡ None = ap (pair n) (sym riv) ∙ sym c.length_and_start.ensures.value ∙ c.in_default.is in
    let t = pair_no n c.args.resource bs Riv (omega arith) refl (omega arith) (ap (fits n c.args.resource) none) in
    record { answer = t.answer; value = t.value; exact = t.exact }

pub returns-then-from : goal.returns-then-from
returns-then-from c =
    let n = c.args.n in
    let bs = c.args.bytes in
    let code : c.take-code.result ≡ code_of (joined bs) = field_is _ _ _ _ _ _ _ c.take-code.ensures.value (cc) (omega arith) refl in
    let riv : c.take-riv.result ≡ riv_of n (joined bs) = field_is _ _ _ _ _ _ _ c.take-riv.ensures.value (cc) (omega arith) c.width_of-width.ensures.value in
    let named : pair n (riv_of n (joined bs)) ≡ Some (c.in-Some.length, c.in-Some.start) =
    ap (pair n) (sym riv) ∙ sym c.length_and_start.ensures.value ∙ c.in-Some.is in
    let t = pair_no n c.args.resource bs Riv (omega arith) refl (omega arith) (ap (fits n c.args.resource) named ∙ lt-leb _ _ (omega arith)) in
    record { answer = t.answer; value = t.value; exact = t.exact }

pub returns-then-take-ne0 : goal.returns-then-take-ne0
returns-then-take-ne0 c =
    let n = c.args.n in
    let bs = c.args.bytes in
    let code : c.take-code.result ≡ code_of (joined bs) = field_is _ _ _ _ _ _ _ c.take-code.ensures.value (cc) (omega arith) refl in
    let riv : c.take-riv.result ≡ riv_of n (joined bs) = field_is _ _ _ _ _ _ _ c.take-riv.ensures.value (cc) (omega arith) c.width_of-width.ensures.value in
    let named : pair n (riv_of n (joined bs)) ≡ Some (c.in-Some.length, c.in-Some.start) =
    ap (pair n) (sym riv) ∙ sym c.length_and_start.ensures.value ∙ c.in-Some.is in
    let rest : c.take.result ≡ rest_of n (joined bs) =
    field_is _ _ _ _ _ _ _ c.take.ensures.value (cc) (omega arith) (ap (λ w. 15 - w) c.width_of-width.ensures.value) in
    let t = rest_no n c.args.resource bs Padding (omega arith) refl (omega arith) (ap (fits n c.args.resource) named ∙ le-leb _ _ (omega arith)) (λ z. c.if-take-ne0.true (rest ∙ z)) in
    record { answer = t.answer; value = t.value; exact = t.exact }

pub returns : goal.returns
returns c =
    let n = c.args.n in
    let bs = c.args.bytes in
    let four : Four bs = record { many = search rules; small = λ k. search rules } in
    let priority : c.take-priority.result ≡ priority_of (joined bs) = field_is _ _ _ _ _ _ _ c.take-priority.ensures.value (cc) (omega arith) refl in
    let code : c.take-code.result ≡ code_of (joined bs) = field_is _ _ _ _ _ _ _ c.take-code.ensures.value (cc) (omega arith) refl in
    let riv : c.take-riv.result ≡ riv_of n (joined bs) = field_is _ _ _ _ _ _ _ c.take-riv.ensures.value (cc) (omega arith) c.width_of-width.ensures.value in
    let named : pair n (riv_of n (joined bs)) ≡ Some (c.in-Some.length, c.in-Some.start) =
    ap (pair n) (sym riv) ∙ sym c.length_and_start.ensures.value ∙ c.in-Some.is in
    let gap : c.take-gap.result ≡ gap_of n (joined bs) = field_is _ _ _ _ _ _ _ c.take-gap.ensures.value (cc) (omega arith) refl in
    let mcs : c.take-mcs.result ≡ mcs_of n (joined bs) = field_is _ _ _ _ _ _ _ c.take-mcs.ensures.value (cc) (omega arith) refl in
    let again : c.take-again.result ≡ again_of n (joined bs) = field_is _ _ _ _ _ _ _ c.take-again.ensures.value (cc) (omega arith) refl in
    let rest : c.take.result ≡ rest_of n (joined bs) =
    field_is _ _ _ _ _ _ _ c.take.ensures.value (cc) (omega arith) (ap (λ w. 15 - w) c.width_of-width.ensures.value) in
    let t = record_yes n c.args.resource bs _ (c.in-Some.length, c.in-Some.start) (omega arith) four (omega arith) named (omega arith) (sym rest ∙ c.if-take-ne0.false) (rw (priority, code, gap, mcs, again)) in
    record { answer = t.answer; value = t.value; exact = t.exact }
