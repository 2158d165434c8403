use Rattle.std.proofs.Common.{◌≡◌, map, drop}
use Rattle.panel_edges.specs.Shelves.{file_of, file_view}
use Rattle.panel_edges.proofs.shelf_file.bytes_of.Given as goal

abbrev pub invariant-loop-file : goal.invariant-loop-file
invariant-loop-file l = file_of l.name (map file_view (drop l.file-index l.files)) ≡ file_of l.name (map file_view l.files)
