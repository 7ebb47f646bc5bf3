use Rattle.std.proofs.Common.{◌≡◌, true, false, eqb, Ok, Err, unwrap_or, sym, ap, ◌∙◌, arith}
use Rattle.std.proofs.lemmas.Bool.Decides.{nat_tests}
use Rattle.refusal.specs.Answers.{told_by}
use Rattle.fields.specs.Shown.{bare}
use Rattle.vocabulary.specs.Grid.{number, number_if}
use Rattle.vocabulary.specs.Vocabulary.{shape_of}
use Rattle.vocabulary.specs.Record.{attributes_of, cells_of}
use Rattle.request.proofs.Celled.{read_gives_cells_lem}
use Rattle.location.proofs.Locating.{other_tag, request_read, number_there}
use Rattle.location.proofs.finding.find.Goals as goal

pub returns-then-raw-ne4 : goal.returns-then-raw-ne4
returns-then-raw-ne4 c =
    let raw = c.args.raw.now in
    let t : eqb raw.tag 0x04 ≡ false = grind (arith, nat_tests) in
    ap (λ r. Err (told_by r)) c.refused.ensures ∙ sym (other_tag raw.at (attributes_of c.args.vocabulary.now) (bare raw) t)

pub returns : goal.returns
returns c =
    let raw = c.args.raw.now in
    let v = attributes_of c.args.vocabulary.now in
    let t : eqb raw.tag 0x04 ≡ true = grind (arith, nat_tests) in
    let cs = cells_of c.in_ok-cells.cells in
    let inside = read_gives_cells_lem v raw.content.now cs (sym c.in_ok-cells.ensures) in
    let there : c.grid_number.result ≡ number (shape_of v) cs =
    c.grid_number.ensures ∙ ap (λ o. unwrap_or o 0) (ap (number_if (shape_of v)) c.as_slice.ensures ∙ number_there (shape_of v) cs inside)
    in
    ap (λ n. Ok (record { grid_number = n; cells = cs })) there ∙ sym (request_read raw.at v (bare raw) cs t c.in_ok-cells.ensures)
