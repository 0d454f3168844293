use Rattle.std.proofs.Common.{◌≡◌, ◌∙◌, rules, tests}
use Rattle.text.specs.NodeLists.{node_list_in, kept}
use Rattle.text.proofs.NodeListExact.{listed}
use Rattle.reader.proofs.FieldLaws.{held-some}
use Rattle.reader.proofs.WantLaws.{fit-nodes}
use Rattle.reader.proofs.row.Row.nodes.Goals as goal

pub returns : goal.returns
returns c f e fit =
    let b = held-some c.field.result f (c.field.ensures ∙ e) in
    let v : c.and_then.result ≡ kept (node_list_in b.0.now) = search (rules, tests) in
    fit-nodes b.0.now (node_list_in b.0.now) c.and_then.result c.unwrap_or.result _ (listed b.0.now) v c.unwrap_or.ensures f b.2 fit
