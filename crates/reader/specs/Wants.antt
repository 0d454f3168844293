-- What the fields of a value line have to be, and what can be wrong with one.
use Rattle.std.specs.Prelude.{◌≡◌, ℕ, ◌<◌, ◌≤◌, cond, ◌⊎◌, List, [], Some, None, codes, decimal, Option, Result, MatchOption, MatchResult, ◌==◌, ◌≢◌}
use Rattle.std.specs.List.{AllByRecursion}
use Rattle.site.specs.declared.Mark.{Mark}
use Rattle.site.specs.declared.Mark.TheVariants.{Yes, No}
use Rattle.text.specs.Spaced.{spaced}
use Rattle.text.specs.declared.fault.FaultKind.{FaultKind}
use Rattle.text.specs.declared.fault.FaultKind.TheVariants as kind
use Rattle.reader.specs.Letters.{letter_of}
use Rattle.reader.specs.declared.act.Act.{Act}
use Rattle.reader.specs.declared.act.Act.TheVariants.{Offer, Seal, Plan, Deletions, Release, Abandon}
use Rattle.reader.specs.declared.form.Want.{Want}
use Rattle.reader.specs.declared.form.Want.TheVariants.{Number, Next, Keep, Letter, Nodes, Nothing, Anything}
use Rattle.reader.specs.declared.form.Form.{Form}
use Rattle.reader.specs.declared.form.Form.TheVariants.{Numbers, Node, Call}

-- after a call and its first number: a node list, a node number or nothing
abbrev pub say_of : Act → Want
say_of Offer = Nodes
say_of Seal = Number 65535
say_of Plan = Nothing
say_of Deletions = Nothing
say_of Release = Nothing
say_of Abandon = Nothing

-- that of a call whose letter is known; else it is not judged
abbrev pub rest_of : Option Act → Want
rest_of None = Anything
rest_of (Some act) = say_of act

-- what the field under a name has to be, by the name's number: node, rack, keep are 0, 1, 2, and so are call, first, rest
abbrev pub want_of : Form → ℕ → Want
want_of Numbers name = Number 4294967295
want_of (Node count) name = cond (name == 0) (Next count) (cond (name == 1) (Number 31) Keep)
want_of (Call act) name = cond (name == 0) Letter (cond (name == 1) (Number 4294967295) (rest_of act))

abbrev pub mark_text : Mark → List ℕ
mark_text Yes = codes "y"
mark_text No = codes "n"

-- the mark whose text the bytes are, or that there is none
abbrev pub Marked : List ℕ → Option Mark → Type 0
Marked bs r = MatchOption r ((m : Mark) → bs ≢ mark_text m) (λ m. bs ≡ mark_text m)

-- the bytes are no number up to the limit
abbrev pub NoNumber : ℕ → List ℕ → Type 0
NoNumber limit bs = (v : ℕ) → v ≤ limit → bs ≢ decimal v

-- a number, but not that of the node that comes after so many others
abbrev pub NotNext : ℕ → List ℕ → Type 0
NotNext count bs = (v : ℕ) × (v ≤ 4294967295) × (bs ≡ decimal v) × ((v ≢ count) ⊎ (255 < v))

-- the field is not what is wanted, and this is its fault
abbrev pub Misfit : Want → List ℕ → FaultKind → Type 0
Misfit (Number limit) bs k = (k ≡ kind.Field) × NoNumber limit bs
Misfit (Next count) bs k = ((k ≡ kind.Field) × NoNumber 4294967295 bs) ⊎ ((k ≡ kind.Node) × NotNext count bs)
Misfit Keep bs k = (k ≡ kind.Field) × ((m : Mark) → bs ≢ mark_text m)
Misfit Letter bs k = (k ≡ kind.Field) × ((a : Act) → bs ≢ letter_of a)
Misfit Nodes bs k = (k ≡ kind.Field) × ((vs : List ℕ) → AllByRecursion (λ v. v ≤ 65535) vs → bs ≢ spaced vs)
Misfit Nothing bs k = (k ≡ kind.Field) × (bs ≢ [])
Misfit Anything bs k = ⊥

-- nothing is wrong with the field
abbrev pub Fit : Want → List ℕ → Type 0
Fit w bs = (k : FaultKind) → Misfit w bs k → ⊥

-- nothing is wrong with a field, or this is the one thing that is
abbrev pub Judged : Want → List ℕ → Result Unit FaultKind → Type 0
Judged w bs r = MatchResult r (λ _. Fit w bs) (λ k. Misfit w bs k × ((j : FaultKind) → Misfit w bs j → j ≡ k))
