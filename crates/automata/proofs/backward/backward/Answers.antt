use Rattle.automata.proofs.Reading.{some_state, states_fit, head_states}
use Rattle.automata.proofs.RowWalks.{walk_starts, rows_behind}
use borrow.Author.Rules.{rules}
use Rattle.automata.proofs.backward.backward.Goals as goal

pub full-requires : goal.full-requires
full-requires c = search (some_state, states_fit, rules)

pub by_threes-reached-requires : goal.by_threes-reached-requires
by_threes-reached-requires c =
    rw (c.bytes.ensures.0, c.full.ensures) (
      walk_starts c.rows_of-rows.ensures.0 _,
      rw (head_states c.head.ensures),
      search (rows_behind, rules),
    )
