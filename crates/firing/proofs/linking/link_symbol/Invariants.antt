use Rattle.firing.specs.Linked.{Linked}
use Rattle.firing.proofs.linking.link_symbol.Given as goal

abbrev pub invariant-loop-row : goal.invariant-loop-row
invariant-loop-row l = Linked l.image l.x l.row l.lasts l.links l.symbols
