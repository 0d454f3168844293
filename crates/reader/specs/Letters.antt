-- The letters of the calls.
use Rattle.std.specs.Prelude.{◌≡◌, ℕ, cond, List, [], ◌∷◌, Some, None, codes, Option, MatchOption, ◌==◌, ◌≢◌}
use Rattle.reader.specs.declared.act.Act.{Act}
use Rattle.reader.specs.declared.act.Act.TheVariants.{Offer, Seal, Plan, Deletions, Release, Abandon}

abbrev pub letter_of : Act → List ℕ
letter_of Offer = codes "o"
letter_of Seal = codes "s"
letter_of Plan = codes "p"
letter_of Deletions = codes "d"
letter_of Release = codes "r"
letter_of Abandon = codes "a"

abbrev pub byte_act : ℕ → Option Act
byte_act b =
    cond (b == 111) (Some Offer) (cond (b == 115) (Some Seal) (cond (b == 112) (Some Plan) (cond (b == 100) (Some Deletions) (cond (b == 114) (Some Release) (cond (b == 97) (Some Abandon) None)))))

-- the byte of a text of one
abbrev pub only_byte : List ℕ → Option ℕ
only_byte [] = None
only_byte (b ∷ []) = Some b
only_byte (b ∷ c ∷ bs) = None

abbrev pub letter : List ℕ → Option Act
letter [] = None
letter (b ∷ []) = byte_act b
letter (b ∷ c ∷ bs) = None

-- the call whose letter the bytes are, or that there is none
abbrev pub Lettered : List ℕ → Option Act → Type 0
Lettered bs r = MatchOption r ((a : Act) → bs ≢ letter_of a) (λ a. bs ≡ letter_of a)
