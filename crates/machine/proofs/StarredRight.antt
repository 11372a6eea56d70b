-- Every starred line of 01 is what the definitions compute. Assumes nothing.
use mathlib.Core.Path.{refl}
use Rattle.lists.specs.Tests.{◌and◌, ◌or◌, neg, choose}
use Rattle.lists.specs.Lists.{any, all, keep, first_from, each_from}
use Rattle.masks.specs.Sets.{member, subset, union, without, single, full, within, absent, lowest_absent}
use Rattle.automata.specs.Bytes.{little2, little4, little8}
use Rattle.automata.specs.Image.{span_start, pair_holds, pairs_hold, rows_from, rows_of, row_holds, rows_hold, outside, check, check_image}
use Rattle.automata.specs.Automaton.{with_row, with_rows, backward, taken_back}
use Rattle.automata.specs.WordTest.{one_if, accepts, known, test_word, word_test}
use Rattle.writing.specs.Decimal.{digits_within, digits}
use Rattle.writing.specs.Lines.{behind_number, numbers_line, text_of}
use Rattle.machine.specs.Machine.{beginning, covers, blocked, final_pending, open_step, qualifies, word_of, extend_step, passes}
use Rattle.machine.specs.Machine.{with_state, with_states, by_states, hint_at, chosen_from, chosen, leaves, staying, pending_after, block_step}
use Rattle.machine.specs.Machine.{work_on, work_step, rises, risen, rise_along, rise_levels, none_at, frame, close_with, close_step}
use Rattle.machine.specs.Machine.{settled, step, step_on, judge, advance, chain, start_answer, start, machine}
use Rattle.machine.specs.Why.{first_covering, absent_reason, why}
use Rattle.machine.specs.Lent.{column, column_back, placed, with_table, with_pending, with_word}
use Rattle.machine.specs.Hitting.{cover_by, cover, cases_outside, cases_from, forbidden, with_set, with_cases, to_meet}
use Rattle.machine.specs.Hitting.{meets, best_from, best, unmet, picked_from, picked, by_hitting_set, growth_of}
use Rattle.machine.specs.Runs.{five_numbers, end_number, number_of, record_of, word_in, word_left, tables_after, odd_rooms, oversize, unknown_edition}
use Rattle.machine.specs.Runs.{unknown_way, check_terms, check_run, run_with, run_of}
use Rattle.machine.specs.Program.{second_line, two_lines, lines_of, program_rooms, program_terms, program_prints}
use Rattle.machine.specs.Starred.{starred, Right, AllRight}

pub starred_right : AllRight starred
unfolding starred Right AllRight program_prints program_rooms program_terms lines_of two_lines second_line text_of numbers_line behind_number digits digits_within run_of run_with check_run check_terms odd_rooms oversize unknown_edition unknown_way check_image check outside pairs_hold pair_holds span_start rows_hold row_holds little8 little4 little2 machine start start_answer chain advance judge beginning step step_on work_step work_on open_step close_step close_with extend_step block_step chosen chosen_from hint_at growth_of by_hitting_set picked picked_from unmet best best_from meets to_meet with_cases with_set forbidden cases_from cases_outside cover cover_by why first_covering absent_reason lowest_absent absent without full by_states with_states with_state passes blocked covers final_pending pending_after qualifies settled word_of leaves staying rises risen rise_along rise_levels none_at frame rows_of rows_from backward with_rows with_row five_numbers record_of number_of end_number word_in word_left tables_after with_table with_pending with_word placed column_back column word_test test_word known accepts taken_back one_if any all keep first_from each_from subset union single member within ◌and◌ ◌or◌ neg choose
starred_right = (refl, (refl, (refl, (refl, (refl, (refl, (refl, (refl, (refl, (refl, (refl, (refl, (refl, (refl, (refl, (refl, (refl, tt)))))))))))))))))
