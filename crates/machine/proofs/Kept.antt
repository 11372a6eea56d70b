-- Every promise is kept. Assumes nothing.
use native.Mathlib.Omega.{arith}
use Rattle.machine.specs.Promises.{Promises}
use Rattle.masks.proofs.Laws.{member_means, subset_means, within_means, union_members, without_members, single_members, full_members}
use Rattle.automata.proofs.BackwardSets.{backward_members}
use Rattle.automata.proofs.AcceptedWords.{empty_steps}
use Rattle.automata.proofs.Reading.{reading_refused, reading_refused_values, reading_valid, reading_valid_values}
use Rattle.writing.proofs.Decimals.{digits_one, digits_decimal}
use Rattle.machine.proofs.WordTests.{refuses_image, refuses_symbol, says_yes, says_no, same_answer}
use Rattle.machine.proofs.RunsKept.{odd_rooms_lem, oversize_rooms, run_promises, editions_agree, block_unpends, blocked_passes, working}
use Rattle.machine.proofs.StepsKept.{begin_promises, step_promises, steps_promises, run_is_steps, runs_agree}
use Rattle.machine.proofs.Reasons.{why_tells}
use Rattle.machine.proofs.Greedy.{picks_most}
use Rattle.machine.proofs.Counted.{counts_once}
use Rattle.machine.proofs.Hitting.{growth_sound, hits}
use Rattle.machine.proofs.LentTables.{blockers_length}
use Rattle.machine.proofs.Images.{accepted_exactly, walk_tells}
use Rattle.machine.proofs.Blocks.{block_makes}
use Rattle.machine.proofs.Printing.{prints_kept}
use Rattle.machine.proofs.ProgramLines.{lines_kept}

pub kept : Promises
kept = record {
  masks = record {
    member_means = member_means;
    subset_means = subset_means;
    within_means = within_means;
    union_means = union_members;
    without_means = without_members;
    single_means = single_members;
    full_means = full_members;
  };
  backward_means = backward_members;
  empty_steps = empty_steps;
  accepted_means = accepted_exactly;
  reader_refuses = reading_refused;
  reader_leaves = λ image before refused. reading_refused_values image refused before;
  reader_accepts = reading_valid;
  reader_reads = λ image before valid. reading_valid_values image valid before;
  word_test_refuses_image = refuses_image;
  word_test_refuses_symbol = refuses_symbol;
  word_test_yes = says_yes;
  word_test_no = says_no;
  word_test_same = same_answer;
  odd_rooms = odd_rooms_lem;
  oversize = oversize_rooms;
  runs = run_promises;
  begins = begin_promises;
  steps = step_promises;
  by_steps = steps_promises;
  run_is_steps = run_is_steps;
  runs_agree = runs_agree;
  editions_agree = editions_agree;
  block_unpends = block_unpends;
  grows_passing = λ image way table below X valid. growth_sound image valid way table below X;
  blocked_passes = blocked_passes;
  block_makes = block_makes;
  working = working;
  hits = hits;
  counts_once = counts_once;
  picks_most = picks_most;
  why_tells = why_tells;
  shorter_counts = λ masks levels. blockers_length _ _ _;
  walk_tells = walk_tells;
  prints = prints_kept;
  prints_lines = lines_kept;
  decimals = digits_decimal;
  decimal_zero = digits_one 0 (omega arith);
}
