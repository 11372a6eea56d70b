use Rattle.hitting.proofs.Gathers.{set_empty, set_among, set_place, place_linked, place_fits, set_enters}
use borrow.Author.Rules.{rules}
use Rattle.hitting.proofs.gathering.Gathering.add.Goals as goal
use Rattle.hitting.proofs.gathering.Gathering.add.Goals.{then-set-eq0-via-then-set-eq0, then-set-eq0-via-else-set-eq0+then-has}

pub returns-then-set-eq0 : goal.returns-then-set-eq0
returns-then-set-eq0 g c =
    elim c.then-set-eq0.branch [
      | then-set-eq0-via-then-set-eq0 w ↦ search (set_empty, rules)
      | then-set-eq0-via-else-set-eq0+then-has w ↦ search (set_among, rules)
    ]

pub bounds-self-self : goal.bounds-self-self
bounds-self-self g c = search (set_place, rules)

pub link-requires : goal.link-requires
link-requires g c = search (place_linked, place_fits, rules)

pub returns : goal.returns
returns g c = search (set_enters, rules)
