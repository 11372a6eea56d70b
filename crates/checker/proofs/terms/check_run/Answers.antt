use Rattle.std.proofs.Common.{rules, ◌≡◌, Err}
use mathlib.Core.Path.{sym, ap, ◌∙◌}
use Rattle.automata.proofs.Chained.{checks}
use Rattle.automata.proofs.Reading.{read_same}
use Rattle.machine.specs.Runs.{odd_rooms, oversize, check_terms}
use Rattle.checker.specs.Calls.{number_checked}
use Rattle.checker.proofs.Checking.{edition_known, edition_unknown, edition_refused, way_known, way_unknown, way_refused}
use Rattle.checker.proofs.Calling.{image_refuses, image_passed}
use Rattle.checker.proofs.terms.check_run.Goals.{
  then-room-via-then-room,
  then-room-via-else-room+then-room-2,
  then-room-via-else-room+else-room-2+then-word,
  then-room-gt-MOST_PLACES-via-then-room-gt-MOST_PLACES,
  then-room-gt-MOST_PLACES-via-else-room-gt-MOST_PLACES+then-word-gt-MOST_PLACES,
  then-room-gt-MOST_PLACES-via-else-room-gt-MOST_PLACES+else-word-gt-MOST_PLACES+then-terms-gt-MOST_PLACES,
}
use Rattle.checker.proofs.terms.check_run.Goals as goal

pub returns-in_err-image-clause-number : goal.returns-in_err-image-clause-number
returns-in_err-image-clause-number c =
    let is : c.from_residual.result ≡ Err c.in_err-image.field-0.0 = search rules in
    ap number_checked is ∙ sym (image_refuses _ _ _ c.in_err-image.ensures)

pub returns-then-room-clause-number : goal.returns-then-room-clause-number
unfolding check_terms odd_rooms
returns-then-room-clause-number c =
    sym (image_passed _ _ _ c.in_ok-image.ensures
    (elim c.then-room.branch [
      | then-room-via-then-room w ↦ search checks depth 9
      | then-room-via-else-room+then-room-2 w ↦ search checks depth 9
      | then-room-via-else-room+else-room-2+then-word w ↦ search checks depth 9
    ]))

pub returns-then-room-gt-MOST_PLACES-clause-number : goal.returns-then-room-gt-MOST_PLACES-clause-number
unfolding check_terms odd_rooms oversize
returns-then-room-gt-MOST_PLACES-clause-number c =
    sym (image_passed _ _ _ c.in_ok-image.ensures
    (elim c.then-room-gt-MOST_PLACES.branch [
      | then-room-gt-MOST_PLACES-via-then-room-gt-MOST_PLACES w ↦ search checks depth 9
      | then-room-gt-MOST_PLACES-via-else-room-gt-MOST_PLACES+then-word-gt-MOST_PLACES w ↦ search checks depth 9
      | then-room-gt-MOST_PLACES-via-else-room-gt-MOST_PLACES+else-word-gt-MOST_PLACES+then-terms-gt-MOST_PLACES w ↦ search checks depth 9
    ]))

pub returns-in_err-try_from-clause-number : goal.returns-in_err-try_from-clause-number
unfolding check_terms odd_rooms oversize
returns-in_err-try_from-clause-number c =
    let unknown = edition_unknown {refusal = c.in_err-try_from.field-0.0} c.args.terms.now.edition (search rules) in
    let is : c.from_residual-in_err-try_from.result ≡ Err c.in_err-try_from.field-0.0 = search rules in
    ap number_checked is
    ∙ edition_refused c.args.terms.now.edition (search rules)
    ∙ sym (image_passed _ _ _ c.in_ok-image.ensures (search checks depth 9))

pub returns-in_err-try_from-2-clause-number : goal.returns-in_err-try_from-2-clause-number
unfolding check_terms odd_rooms oversize
returns-in_err-try_from-2-clause-number c =
    let known = edition_known {edition = c.in_ok-try_from.field-0} c.args.terms.now.edition (search rules) in
    let unknown = way_unknown {refusal = c.in_err-try_from-2.field-0.0} c.args.terms.now.way (search rules) in
    let is : c.from_residual-in_err-try_from-2.result ≡ Err c.in_err-try_from-2.field-0.0 = search rules in
    ap number_checked is
    ∙ way_refused c.args.terms.now.way (search rules)
    ∙ sym (image_passed _ _ _ c.in_ok-image.ensures (search checks depth 9))

pub returns-clause-number : goal.returns-clause-number
unfolding check_terms odd_rooms oversize
returns-clause-number c =
    let edition = edition_known {edition = c.in_ok-try_from.field-0} c.args.terms.now.edition (search rules) in
    let way = way_known {way = c.in_ok-try_from-2.field-0} c.args.terms.now.way (search rules) in
    sym (image_passed _ _ _ c.in_ok-image.ensures (search checks depth 9))

pub returns-clause-image : goal.returns-clause-image
returns-clause-image c = read_same _ c.in_ok-image.ensures
