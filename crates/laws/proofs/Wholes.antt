-- The lines that a run gives are those of its sheet.
use Rattle.std.proofs.Common.{◌≡◌, ℕ, ◌+◌, List, [], ◌∷◌, length, take, refl, ap, subst, inl, inr, arith}
use Rattle.std.proofs.lemmas.List.{take_all}
use Rattle.site.specs.Site.{Place}
use Rattle.site.specs.Maps.{listed}
use Rattle.reader.specs.declared.maps.SiteKind.{SiteKind}
use Rattle.reader.specs.declared.maps.SiteKind.TheVariants as kind
use Rattle.reader.specs.declared.opening.SiteFault.TheVariants.{Read, Refused}
use Rattle.reader.specs.declared.sites.SiteValues.{SiteValues}
use Rattle.reader.specs.declared.sites.SiteValues.TheVariants.{Regular, Listed}
use Rattle.reader.specs.Sites.{SiteText}
use Rattle.reader.specs.SiteMaps.{KindOf, NoMap, kind_meaning}
use Rattle.reader.specs.Heads.{HeadFault}
use Rattle.reader.specs.Rows.{Clean}
use Rattle.sheet.specs.declared.run.Run.{Run}
use Rattle.sheet.specs.declared.faults.RunFault.TheVariants as fault
use Rattle.sheet.specs.Replies.{fault_text}
use Rattle.sheet.specs.Said.{LinesSay}
use Rattle.sheet.specs.Starts.{count_of}
use Rattle.sheet.specs.Sheets.{LinesFor, SiteSaid, site_lines, calls_at, UnopenedTold, OpenedSays, UnbegunTold, WholeTold}

no-map : (sheet : List ℕ) (site : SiteValues) (table : List Place) (line : ℕ) → Clean (HeadFault sheet) → SiteText (site_lines sheet) site table → NoMap site → line ≡ 5 → LinesFor sheet (fault_text 9 line 1 ∷ [])
no-map sheet (Regular racks each) table line clean text none five = inr (inl (racks, each, clean, text, none, ap (λ (n : ℕ). fault_text 9 n 1 ∷ []) five))
no-map sheet (Listed nodes) table line clean text none five = absurd none

pub unopened-told : UnopenedTold
unopened-told sheet was table lines (fault.Site (Read f)) h = inl (f, h, refl)
unopened-told sheet was table lines (fault.Site (Refused o line)) h = no-map sheet h.0.site table line h.1.clean h.1.site h.2 h.3
unopened-told sheet was table lines (fault.SetUp e) h = absurd h
unopened-told sheet was table lines (fault.Calls f) h = absurd h

site-said : (ls : List (List ℕ)) (site : SiteValues) (k : SiteKind) (table : List Place) → SiteText ls site table → KindOf site k → SiteSaid ls (kind_meaning k (listed (take (count_of site) table)))
site-said ls (Regular racks each) (kind.Regular m) table text h = inl (racks, each, text, h.0, h.1)
site-said ls (Regular racks each) kind.Listed table text h = absurd h
site-said ls (Listed nodes) (kind.Regular m) table text h = absurd h
site-said ls (Listed nodes) kind.Listed table text h = inr (take nodes table, text, refl)

pub opened-says : OpenedSays
opened-says sheet was table lines o s h means = (
  record {
    clean = h.0.clean;
    code = h.0.code;
    base = kind_meaning o.kind (listed (take (count_of o.head.site) table));
    site = site-said (site_lines sheet) o.head.site o.kind table h.0.site h.1;
    means = means;
  },
  h.0.calls,
  h.0.number,
)

pub unbegun-told : {M : Type 0} (run : Run M) → UnbegunTold run
unbegun-told run sheet v s (fault.Site f) says h = absurd h
unbegun-told run sheet v s (fault.SetUp e) says h = inr (inr (v, s, says, inl (_, h, refl)))
unbegun-told run sheet v s (fault.Calls f) says h = inr (inr (v, s, says, inr (h.0, inl (f, h.1, refl))))

pub whole-told : {M : Type 0} (run : Run M) → WholeTold run
whole-told run sheet v s is after cs says read none going all =
    let said = subst (λ (ls : List (List ℕ)). LinesSay is (calls_at sheet + 1) ls cs) (take_all (length cs) after (omega (arith, all))) going.said in
    inr (inr (v, s, says, inr (none, inr (is, after, cs, read, said, refl))))
