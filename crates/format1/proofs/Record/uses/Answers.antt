-- The partner is at the index exactly where the rules' test says so.
use Rattle.std.proofs.Common.{◌≡◌, ℕ, ◌^◌, ◌<◌, ◌&&◌, Some, nat_eq, nat_lt, rules, arith}
use Rattle.std.specs.Option.{option_eq}
use Rattle.std.proofs.lemmas.Bool.Decides.{nat_tests}
use Rattle.rules.specs.Format.{Record, partner, uses}
use Rattle.rules.specs.Choose.{partner_of}
use Rattle.format1.specs.Records.{meant_of, fitting}
use Rattle.format1.proofs.Record.uses.Goals as goal

tells : (r : Record) (b index : ℕ) → index < 2 ^ 64 → option_eq nat_eq (fitting (partner_of r b)) (Some index) ≡ (nat_lt 0 r.gap && partner r b index)
tells r b index l = grind (arith, nat_tests)

pub returns-then-own-clause-value : goal.returns-then-own-clause-value
unfolding uses
returns-then-own-clause-value c = search rules

pub returns-then-at_partner-clause-value : goal.returns-then-at_partner-clause-value
unfolding uses
returns-then-at_partner-clause-value c =
    let t = tells (meant_of c.args.self.now) c.args.base c.args.index (omega arith) in
    search rules

pub returns-else-at_partner-clause-value : goal.returns-else-at_partner-clause-value
unfolding uses
returns-else-at_partner-clause-value c =
    let t = tells (meant_of c.args.self.now) c.args.base c.args.index (omega arith) in
    search rules
