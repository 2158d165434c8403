use Rattle.std.proofs.Common.{◌∙◌, sym}
use Rattle.panel_core.proofs.laws.faces_are_pinned.Goals as goal

pub returns : goal.returns
returns c system panel face other site kept before h run shown again = shown site kept before h run ∙ sym (again site kept before h run)
