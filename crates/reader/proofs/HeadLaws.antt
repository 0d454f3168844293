-- The earliest fault of code and site: every fault of the code part stands before all of the site part.
use Rattle.std.proofs.Common.{◌≡◌, ℕ, ◌+◌, ◌≤◌, List, [], ◌∷◌, length, get_or, take, drop, sym, ap, ◌∙◌, subst, inl, inr, ⊎_elim, arith}
use Rattle.std.proofs.lemmas.List.{take_all}
use Rattle.site.specs.Site.{Place}
use Rattle.text.specs.Faults.{Least}
use Rattle.text.specs.Pieces.{lines_of}
use Rattle.text.specs.Rows.{left_of}
use Rattle.text.specs.declared.lines.Lines.{Lines}
use Rattle.text.specs.declared.fault.Fault.{Fault}
use Rattle.reader.specs.declared.code.CodeValues.{CodeValues}
use Rattle.reader.specs.declared.sites.SiteValues.{SiteValues}
use Rattle.reader.specs.declared.form.Form.TheVariants.{Numbers}
use Rattle.reader.specs.Rows.{Clean}
use Rattle.reader.specs.Codes.{CodeFault, CodeRead}
use Rattle.reader.specs.Listings.{past_part, past_number}
use Rattle.reader.specs.Sites.{SitePartFault, SiteRead, SiteText}
use Rattle.reader.specs.Heads.{LinesFault, HeadFault, HeadRead}
use Rattle.reader.proofs.RowLaws.{Same, row_line, least-same, clean-same}
use Rattle.reader.proofs.ListingLaws.{nodes-line}

code_lines : (n : ℕ) (ls : List (List ℕ)) (f : Fault) → CodeFault n ls f → f.place.line ≤ n + 2
code_lines n ls f =
    ⊎_elim (λ p. omega (arith, p.0, ap (λ x. x.place.line) p.1))
    (⊎_elim (λ p. omega (arith, ap (λ x. x.place.line) p.2))
    (⊎_elim (λ p. omega (arith, row_line Numbers p.0 (n + 1) (get_or ls 1 []) f p.2)) (λ p. omega (arith, ap (λ x. x.place.line) p.1))))

site-lines : (n : ℕ) (ls : List (List ℕ)) (f : Fault) → SitePartFault n ls f → n ≤ f.place.line
site-lines n [] f h = omega (arith, ap (λ x. x.place.line) h)
site-lines n (l ∷ ls) f h =
    ⊎_elim (λ p. omega (arith, ap (λ x. x.place.line) p.2))
    (⊎_elim (λ p. ⊎_elim (λ q. omega (arith, row_line Numbers p.0 (n + 1) (get_or ls 0 []) f q)) (λ q. omega (arith, ap (λ x. x.place.line) q.1)) p.2)
    (λ p. omega (arith, nodes-line p.0 (n + 1) 0 ls f p.2))) h

code-first : (ls : List (List ℕ)) (f : Fault) → Least (CodeFault 1 ls) f → Least (LinesFault ls) f
code-first ls f least = record {
  there = inl least.there;
  first = λ g. ⊎_elim (least.first g) (λ p. inl (omega (arith, code_lines 1 ls f least.there, site-lines 4 (drop 3 ls) g p.1)));
}

site-next : (ls : List (List ℕ)) → Clean (CodeFault 1 ls) → 3 ≤ length ls → Same (SitePartFault 4 (drop 3 ls)) (LinesFault ls)
site-next ls clean long f = ((λ h. inr (long, h)), ⊎_elim (λ p. absurd (clean f p)) (λ p. p.1))

-- a sheet that is not too long
module _ (sheet : List ℕ) (short : length sheet ≤ 65536) where
  lines_same : Same (LinesFault (lines_of sheet)) (HeadFault sheet)
  lines_same f = ((λ h. inr (short, h)), ⊎_elim (λ p. absurd (omega (arith, p.0))) (λ p. p.1))

  whole : lines_of (take 65536 sheet) ≡ lines_of sheet
  whole = ap lines_of (take_all 65536 sheet short)

  pub head-code-wrong : (lines : Lines) (f : Fault) → left_of lines ≡ lines_of (take 65536 sheet) → lines.number ≡ 1 → Least (CodeFault lines.number (left_of lines)) f → Least (HeadFault sheet) f
  head-code-wrong lines f e n least =
      least-same (LinesFault (lines_of sheet)) (HeadFault sheet) f lines_same
      (code-first (lines_of sheet) f (subst (λ P. Least P f) (λ x. CodeFault (n x) ((e ∙ whole) x)) least))

  module _ (lines mid : Lines) (code : CodeValues) (e : left_of lines ≡ lines_of (take 65536 sheet)) (n : lines.number ≡ 1) (r : CodeRead lines.number (left_of lines) code (left_of mid) mid.number) where
    read : CodeRead 1 (lines_of sheet) code (left_of mid) mid.number
    read = subst (λ P. P) (λ x. CodeRead (n x) ((e ∙ whole) x) code (left_of mid) mid.number) r

    site-same : Same (SitePartFault mid.number (left_of mid)) (HeadFault sheet)
    site-same f =
        let s = site-next (lines_of sheet) read.clean read.long f in
        let h = lines_same f in
        let to = subst (λ P. P) (λ x. SitePartFault (read.next x) (read.after_it x) f) in
        let from = subst (λ P. P) (λ x. SitePartFault (sym read.next x) (sym read.after_it x) f) in
        ((λ p. h.0 (s.0 (to p))), λ p. from (s.1 (h.1 p)))

    pub head-site-wrong : (f : Fault) → Least (SitePartFault mid.number (left_of mid)) f → Least (HeadFault sheet) f
    head-site-wrong f least = least-same (SitePartFault mid.number (left_of mid)) (HeadFault sheet) f site-same least

    pub head_read : (calls : Lines) (v : SiteValues) (was table : List Place) → SiteRead mid.number (left_of mid) v was table (left_of calls) calls.number → HeadRead sheet (record { code = code; site = v }) was table calls
    head_read calls v was table s = record {
      clean = clean-same (SitePartFault mid.number (left_of mid)) (HeadFault sheet) site-same s.clean;
      code = read.text;
      site = subst (λ ls. SiteText ls v table) read.after_it s.text;
      kept = s.kept;
      calls = s.after_it ∙ ap past_part read.after_it;
      number = s.next ∙ (λ x. past_number (read.next x) (read.after_it x));
    }
