use Rattle.std.proofs.Common.{◌≡◌, ◌<◌, ◌++◌, length, drop}
use Rattle.short_list.specs.Items.{items_of}
use Rattle.vocabulary.specs.Grid.{grid, cells_at}
use Rattle.vocabulary.specs.Record.{counts_of}
use Rattle.vocabulary.proofs.record.Shape.cells.Given as goal

abbrev pub invariant-loop-count : goal.invariant-loop-count
invariant-loop-count l = record {
  in_the_grid : l.number < grid (counts_of l.self);
  grid_of_the_rest : l.size ≡ grid (drop l.count-index (counts_of l.self));
  rest_within : l.rest < l.size;
  cells_so_far : cells_at (counts_of l.self) l.number ≡ items_of l.cells ++ cells_at (drop l.count-index (counts_of l.self)) l.rest;
  as_many_cells : length (items_of l.cells) ≡ l.count-index;
}
