use Rattle.std.proofs.Common.{rules, map, ◌≡◌, refl, sym, subst, ◌∙◌}
use Rattle.std.proofs.lemmas.List.{length-map}
use Rattle.std.proofs.lemmas.List.Sorted.{length_permutation}
use Rattle.selecting.specs.Entries.{reported, SomeOf}
use Rattle.selecting.proofs.Fewer.{some_all}
use Rattle.selecting.proofs.reports.report_of.Goals as goal

pub returns : goal.returns
returns c =
    let es = c.args.entries.now in
    record {
      size = length_permutation (map reported es) c.places_of-places.result.items c.places_of-places.ensures.shuffled ∙ length-map es reported;
      places = search rules;
      marked = search rules;
      raise_is = refl;
      question_is = refl;
      apart_is = refl;
    }

pub invariant_of-result-clause-few : goal.invariant_of-result-clause-few
invariant_of-result-clause-few c =
    let es = c.args.entries.now in
    let same = length_permutation (map reported es) c.places_of-places.result.items c.places_of-places.ensures.shuffled ∙ length-map es reported in
    search rules

pub invariant_of-result-clause-some : goal.invariant_of-result-clause-some
invariant_of-result-clause-some c =
    let all = c.places_of-places.result.items in
    let is : c.copy_of.result.items ≡ all = search rules in
    subst (λ xs. ∥ SomeOf xs all ∥₁) (sym is) ∣ some_all all ∣₁
