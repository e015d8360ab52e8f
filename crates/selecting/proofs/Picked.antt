-- From the list that the code writes to the list of the candidates. Assumes nothing.
use Rattle.std.proofs.Common.{◌≡◌, ℕ, ◌≤◌, true, List, Ok, sym, subst}
use Rattle.choosing.specs.declared.Question.{Question}
use Rattle.selecting.specs.Chosen.{Selected}
use Rattle.selecting.specs.Lifts.{leaves, NoneBelow}
use Rattle.selecting.specs.Made.{Ranked}
use Rattle.selecting.specs.declared.Entry.{Entry}
use Rattle.selecting.specs.declared.Report.{Report}

pub picked : (xs es : List Entry) (steps : ℕ) (q : Question) (apart : ℕ) (r : Report) → xs ≡ es → (steps ≤ 43) × (leaves xs steps ≡ true) × NoneBelow xs steps → Ranked xs steps q apart r → Selected es q apart (Ok r)
picked xs es steps q apart r e up w =
    let same = sym w.first.raise_is in
    subst (λ ys. Selected ys q apart (Ok r)) e (
      subst (λ n. n ≤ 43) same up.0,
      subst (λ n. leaves xs n ≡ true) same up.1,
      subst (NoneBelow xs) same up.2,
      subst (λ n. Ranked xs n q apart r) same w,
    )
