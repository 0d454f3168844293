use Rattle.std.proofs.Common.{ℕ, List, ◌++◌, sym, ap, ◌∙◌, arith, length-append, rules}
use Rattle.text.specs.Texts.{whole}
use Rattle.text.proofs.TextLaws.{wrote-whole, wrote-more}
use Rattle.sheet.specs.Replies.{heading}
use Rattle.capi.specs.Sheets.{text_of}
use Rattle.capi.proofs.sheets.vault_run_sheet.Goals as goal

pub returns : goal.returns
returns c =
    let line = c.put_line-heading.ensures in
    let put = c.put_sheet.ensures in
    let t = heading ++ text_of put.lines in
    let all = wrote-more heading (text_of put.lines) (line.wrote (omega arith)) put.wrote in
    let w = wrote-whole t c.new-writer.ensures.at all ∙ ap (λ (l : List ℕ). whole l t) c.new-writer.ensures.buffer in
    let n = sym (all.lent ∙ c.new-writer.ensures.lent) in
    record { lines = put.lines; told = put.told; text = search rules; count = omega (arith, line.count (omega arith), put.count, length-append heading (text_of put.lines)) }
