-- A sheet's bytes leave one list of lines.
use Rattle.std.proofs.Common.{◌≡◌, ℕ, List, [], ◌∷◌, get_or, drop, sym, ap, ◌∙◌, subst, inl, inr}
use Rattle.site.specs.Site.{Site, Place}
use Rattle.site.specs.Maps.{Fit, regular, listed, target}
use Rattle.text.specs.Pieces.{lines_of}
use Rattle.text.specs.declared.fault.Fault.{Fault}
use Rattle.reader.specs.declared.code.CodeValues.{CodeValues}
use Rattle.reader.specs.declared.sites.SiteValues.TheVariants.{Regular}
use Rattle.reader.specs.Rows.{Clean}
use Rattle.reader.specs.Sites.{SitePartFault}
use Rattle.reader.specs.Heads.{HeadFault}
use Rattle.laws.proofs.BackLaws.{one_code, one-site, same-places}
use Rattle.reader.proofs.SiteLaws.{two-or-three}
use Rattle.sheet.specs.FaultTexts.{fault_line}
use Rattle.sheet.specs.Sheets.{RegularSaid, ListingSaid, SiteSaid, site_lines, Says, StoreTold}
use Rattle.laws.specs.Lines.{LinesOne}
use Rattle.laws.proofs.Sizes.{head-parts, code_words, regular-words, listing-racked}
use Rattle.laws.proofs.LeastFaults.{least-one}
use Rattle.laws.proofs.OneRun.{told-one}

-- a site part with no fault says one regular site, or one listing, and not both
module _ (ls : List (List ℕ)) (clean : Clean (SitePartFault 4 ls)) where
  regular-one : (racks each racks' each' : ℕ) → RegularSaid ls racks each → RegularSaid ls racks' each' → (racks ≡ racks') × (each ≡ each')
  regular-one racks each racks' each' said told =
      one-site ls (Regular racks each) (Regular racks' each') [] [] (regular-words 4 ls racks each clean said) (regular-words 4 ls racks' each' clean told) said told

  listing-one : (ps qs : List Place) → ListingSaid ls ps → ListingSaid ls qs → ps ≡ qs
  listing-one ps qs (is, o, said) (js, p, told) =
      same-places (get_or ls 0 []) is js o p 0 (drop 1 ls) ps qs (listing-racked 4 ls ps clean (is, o, said)) (listing-racked 4 ls qs clean (js, p, told)) said told

  one-kind : (racks each : ℕ) (ps : List Place) → RegularSaid ls racks each → ListingSaid ls ps → ⊥
  one-kind racks each ps (is, o, said) (js, p, told) = two-or-three (get_or ls 0 []) is js o p

  -- so it means one site
  site-one : (s t : Site) → SiteSaid ls s → SiteSaid ls t → s ≡ t
  site-one s t (inl (racks, each, said, fit, e)) (inl (racks', each', told, fit', d)) =
      let same = regular-one racks each racks' each' said told in
      e ∙ (λ i. regular (same.0 i) (same.1 i)) ∙ sym d
  site-one s t (inl (racks, each, said, fit, e)) (inr (ps, told, d)) = absurd (one-kind racks each ps said told)
  site-one s t (inr (ps, said, e)) (inl (racks, each, told, fit, d)) = absurd (one-kind racks each ps told said)
  site-one s t (inr (ps, said, e)) (inr (qs, told, d)) = e ∙ ap listed (listing-one ps qs said told) ∙ sym d

  -- and one that fits no map means none
  no-site : (racks each : ℕ) (s : Site) → RegularSaid ls racks each → (Fit racks each → ⊥) → SiteSaid ls s → ⊥
  no-site racks each s said none (inl (racks', each', told, fit, e)) =
      let same = regular-one racks' each' racks each told said in
      none (subst (λ (n : ℕ). Fit racks n) same.1 (subst (λ (n : ℕ). Fit n each') same.0 fit))
  no-site racks each s said none (inr (ps, told, e)) = one-kind racks each ps said told

-- the code and the map of a sheet are the only ones that it says
says-one : (sheet : List ℕ) (v w : CodeValues) (s t : Site) → Says sheet v s → Says sheet w t → (v ≡ w) × (s ≡ t)
says-one sheet v w s t p q =
    let parts = head-parts sheet p.clean in
    let code = one_code (lines_of sheet) w v (code_words 1 (lines_of sheet) w parts.0 q.code) (code_words 1 (lines_of sheet) v parts.0 p.code) q.code p.code in
    let base = site-one (site_lines sheet) parts.1 p.base q.base p.site q.site in
    (code, p.means ∙ (λ i. target (code i).targets (base i)) ∙ sym q.means)

-- so two lists of lines that it has are the same
pub lines-one : LinesOne
lines-one sheet xs ys (inl (f, p, e)) (inl (g, q, d)) = e ∙ ap (λ (h : Fault). fault_line h ∷ []) (least-one (HeadFault sheet) f g p q) ∙ sym d
lines-one sheet xs ys (inl (f, p, e)) (inr (inl (racks, each, clean, said, none, d))) = absurd (clean f p.there)
lines-one sheet xs ys (inl (f, p, e)) (inr (inr (v, s, says, told))) = absurd (says.clean f p.there)
lines-one sheet xs ys (inr (inl (racks, each, clean, said, none, e))) (inl (g, q, d)) = absurd (clean g q.there)
lines-one sheet xs ys (inr (inl (racks, each, clean, said, none, e))) (inr (inl (racks', each', clean', said', none', d))) = e ∙ sym d
lines-one sheet xs ys (inr (inl (racks, each, clean, said, none, e))) (inr (inr (v, s, says, told))) = absurd (no-site (site_lines sheet) (head-parts sheet clean).1 racks each says.base said none says.site)
lines-one sheet xs ys (inr (inr (v, s, says, told))) (inl (g, q, d)) = absurd (says.clean g q.there)
lines-one sheet xs ys (inr (inr (v, s, says, told))) (inr (inl (racks, each, clean, said, none, d))) = absurd (no-site (site_lines sheet) (head-parts sheet clean).1 racks each says.base said none says.site)
lines-one sheet xs ys (inr (inr (v, s, says, told))) (inr (inr (w, t, says', told'))) =
    let same = says-one sheet v w s t says says' in
    let back : StoreTold sheet v s ys = subst (λ (P : Type 0). P) (λ i. StoreTold sheet (sym same.0 i) (sym same.1 i) ys) told' in
    told-one sheet v s xs ys told back
