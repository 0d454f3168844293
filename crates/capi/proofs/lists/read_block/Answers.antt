use Rattle.std.proofs.Common.{◌∙◌, ap}
use Rattle.blocks.specs.Blocks.{numbers}
use Rattle.capi.proofs.Taken.{block-read}
use Rattle.capi.proofs.lists.read_block.Goals as goal

pub returns : goal.returns
returns c = block-read c.args.list.now c.as_slice.result.now c.new.result c.ok_or.result (ap numbers c.as_slice.ensures.value ∙ c.as_nodes-nodes.ensures) c.new.ensures c.ok_or.ensures.value
