use Rattle.choices.proofs.Choosing.{chosen_without, chosen_hint, chosen_grown}
use borrow.Author.Rules.{rules}
use Rattle.choices.proofs.choose_set.Goals as goal
use Rattle.choices.proofs.choose_set.Goals.{in_default-via-in-Some+else-passes, in_default-via-in_default}

pub returns-in-Some : goal.returns-in-Some
returns-in-Some c = search (chosen_hint, rules)

pub returns-in_default : goal.returns-in_default
returns-in_default c =
    elim c.in_default.branch [
      | in_default-via-in-Some+else-passes w ↦ search (chosen_grown, rules)
      | in_default-via-in_default w ↦ search (chosen_without, rules)
    ]
