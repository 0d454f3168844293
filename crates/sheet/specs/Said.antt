-- What a call line says: a call of the ledger's, or a fault.
use Rattle.std.specs.Prelude.{◌≡◌, ℕ, ◌+◌, ◌≤◌, cond, if◌then◌else◌, List, [], ◌∷◌, ◌++◌, map, Some, Ok, Err, codes, decimal, Result, ◌==◌, nat_lt}
use Rattle.std.specs.List.{AllByRecursion}
use Rattle.text.specs.Faults.{Least}
use Rattle.text.specs.Pieces.{parted}
use Rattle.text.specs.Spaced.{spaced}
use Rattle.text.specs.declared.fault.Fault.{Fault}
use Rattle.text.specs.NodeLists.{kept}
use Rattle.reader.specs.declared.calls.Asked.{Asked}
use Rattle.reader.specs.declared.calls.Asked.TheVariants.{Offer, Seal, Plan, Deletions, Release, Abandon}
use Rattle.reader.specs.Rows.{Clean}
use Rattle.reader.specs.Calls.{CallFault}
use Rattle.store.specs.Stripes.{Call, set_up, offer, seal, plan, deletions, standing, release, abandon}

abbrev pub letter_text : Call → List ℕ
letter_text (set_up n k c) = []
letter_text (offer b vs) = codes "o"
letter_text (seal r v) = codes "s"
letter_text (plan r rows) = codes "p"
letter_text (deletions r rows) = codes "d"
letter_text (standing r lost w) = []
letter_text (release r) = codes "r"
letter_text (abandon r) = codes "a"

-- the block of an offer, and otherwise the rack
abbrev pub first_of : Call → ℕ
first_of (set_up n k c) = n
first_of (offer b vs) = b
first_of (seal r v) = r
first_of (plan r rows) = r
first_of (deletions r rows) = r
first_of (standing r lost w) = r
first_of (release r) = r
first_of (abandon r) = r

-- the nodes of an offer, the start node of a seal
abbrev pub rest_field : Call → List ℕ
rest_field (set_up n k c) = []
rest_field (offer b vs) = spaced vs
rest_field (seal r v) = decimal v
rest_field (plan r rows) = []
rest_field (deletions r rows) = []
rest_field (standing r lost w) = []
rest_field (release r) = []
rest_field (abandon r) = []

-- the calls that a sheet can make: none sets up or asks what stands, and 112 rows are lent
abbrev pub Sheetly : Call → Type 0
Sheetly (set_up n k c) = ⊥
Sheetly (offer b vs) = AllByRecursion (λ v. v ≤ 65535) vs
Sheetly (seal r v) = v ≤ 65535
Sheetly (plan r rows) = rows ≡ 112
Sheetly (deletions r rows) = rows ≡ 112
Sheetly (standing r lost w) = ⊥
Sheetly (release r) = Unit {0}
Sheetly (abandon r) = Unit {0}

-- the text under each name, by the name's number: call, first and rest are 0, 1 and 2
abbrev pub field_text : Call → ℕ → List ℕ
field_text call i = cond (i == 0) (letter_text call) (cond (i == 1) (decimal (first_of call)) (rest_field call))

-- the line is the text of this call, its names standing in this order
pub record Writes (is : List ℕ) (line : List ℕ) (call : Call) : Type 0 where
  pub can : Sheetly call
  pub low : first_of call ≤ 4294967295
  pub fields : parted 44 line ≡ map (field_text call) is

abbrev pub Said : Type 0
Said = Result Call Fault

-- line n says this: the call whose text it is, or its earliest fault
abbrev pub LineSays : List ℕ → ℕ → List ℕ → Said → Type 0
LineSays is n line (Ok call) = Clean (CallFault is n line) × Writes is line call
LineSays is n line (Err f) = Least (CallFault is n line) f

-- the lines from number n on say these
abbrev pub LinesSay : List ℕ → ℕ → List (List ℕ) → List Said → Type 0
LinesSay is n [] [] = Unit {0}
LinesSay is n [] (c ∷ cs) = ⊥
LinesSay is n (l ∷ ls) [] = ⊥
LinesSay is n (l ∷ ls) (c ∷ cs) = LineSays is n l c × LinesSay is (n + 1) ls cs

-- a call that is asked for so, with this first number: an offer's list goes by its first eight nodes and its length
abbrev pub Stands : Asked → ℕ → Call → Type 0
Stands (Offer list) n call = (vs : List ℕ) × (Some list ≡ kept (Some vs)) × (call ≡ offer n vs)
Stands (Seal v) n call = call ≡ seal n v
Stands Plan n call = call ≡ plan n 112
Stands Deletions n call = call ≡ deletions n 112
Stands Release n call = call ≡ release n
Stands Abandon n call = call ≡ abandon n

-- the nodes that are sent for an offer: those that are kept of its list, and node 0 after them where it has more
abbrev pub sent_nodes : Asked → List ℕ
sent_nodes (Offer list) = list.nodes ++ (if nat_lt 8 list.len then 0 ∷ [] else [])
sent_nodes (Seal v) = []
sent_nodes Plan = []
sent_nodes Deletions = []
sent_nodes Release = []
sent_nodes Abandon = []

-- the call that is sent to the store, an offer with these nodes
abbrev pub sent : Asked → ℕ → List ℕ → Call
sent (Offer list) n ws = offer n ws
sent (Seal v) n ws = seal n v
sent Plan n ws = plan n 112
sent Deletions n ws = deletions n 112
sent Release n ws = release n
sent Abandon n ws = abandon n

-- the start node of a seal is one that a sheet can write
abbrev pub Low : Asked → Type 0
Low (Offer list) = Unit {0}
Low (Seal v) = v ≤ 65535
Low Plan = Unit {0}
Low Deletions = Unit {0}
Low Release = Unit {0}
Low Abandon = Unit {0}
