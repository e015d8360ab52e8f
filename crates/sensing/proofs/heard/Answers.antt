use Rattle.std.proofs.Common.{◌≡◌, true, ap, ◌∙◌, arith, w16}
use Rattle.std.proofs.lemmas.Result.{err_from_is_err_and}
use Rattle.std.proofs.lemmas.Int.{ints, to_z-of_z}
use Rattle.rules.specs.Sensing.{rsrp_ok}
use Rattle.format1.specs.Records.{meant_of}
use Rattle.sensing.proofs.Examine.{reading_ok, heard_no, heard_yes}
use Rattle.sensing.proofs.heard.Goals as goal

pub returns-in_err-what : goal.returns-in_err-what
returns-in_err-what c =
    let p = err_from_is_err_and c.from_residual.result c.from_residual.ensures.1 in
    rw (p.1, p.2) (heard_no c.args.n c.args.resource c.args.bytes c.args.rsrp c.in_err-what.field-0.0 c.in_err-what.ensures.answer)

pub returns : goal.returns
returns c =
    let said = c.in_ok-what.ensures in
    let x = c.args.rsrp in
    let ok : rsrp_ok x ≡ true = grind (arith, ints) in
    let what = reading_ok c.args.n c.args.resource c.args.bytes (meant_of c.in_ok-what.what) said.value in
    let same = to_z-of_z w16 x c.ranges.rsrp in (
      heard_yes c.args.n c.args.resource c.args.bytes x said.answer ok,
      ap (λ z. record { what = meant_of c.in_ok-what.what; rsrp = z }) same ∙ ap (λ r. record { what = r; rsrp = x }) what,
      record { within = said.exact.within; inside = said.exact.inside; rsrp = ap rsrp_ok same ∙ ok },
    )
