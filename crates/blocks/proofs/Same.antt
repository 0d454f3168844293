-- Two values that say the same are the same.
use Rattle.std.proofs.Common.{◌≡◌, ℕ, List, [], ◌∷◌, map, refl, ap, arith}
use denote.Struct.Record.{values_one}
use Rattle.std.specs.Coded.{coded_list}
use Rattle.site.specs.contracts.Node as node
use Rattle.site.specs.declared.Node.{Node}
use Rattle.blocks.specs.contracts.block.Block as block
use Rattle.blocks.specs.declared.block.Block.{Block}
use Rattle.blocks.specs.contracts.code.Code as code
use Rattle.blocks.specs.declared.code.Code.{Code}
use Rattle.blocks.specs.Blocks.{copies_of, numbers, told}

pub map-one : {X Y : Type 0} (f : X → Y) → ((x y : X) → f x ≡ f y → x ≡ y) → (xs ys : List X) → map f xs ≡ map f ys → xs ≡ ys
map-one f one [] [] e = refl
map-one f one [] (y ∷ ys) e = let z : ◌≡◌ {A = ℕ} 0 1 = cc in absurd (omega arith)
map-one f one (x ∷ xs) [] e = let z : ◌≡◌ {A = ℕ} 0 1 = cc in absurd (omega arith)
map-one f one (x ∷ xs) (y ∷ ys) e =
    let a : f x ≡ f y = cc in
    let b : map f xs ≡ map f ys = cc in
    let p = one x y a in
    let q = map-one f one xs ys b in
    cc

same-node : (v w : Node) → v.0 ≡ w.0 → v ≡ w
same-node v w e = ap (λ (n : ℕ). record { 0 = n }) e

pub same_nodes : (vs ws : List Node) → numbers vs ≡ numbers ws → vs ≡ ws
same_nodes vs ws e = map-one (λ v. v.0) same-node vs ws e

pub same_block : (a b : Block) → a.number ≡ b.number → copies_of a ≡ copies_of b → a ≡ b
same_block a b n e =
    let vs : a.nodes ≡ b.nodes = same_nodes a.nodes b.nodes e in
    values_one block.struct (block.the_propositions (coded_list (node.the_row).coded) (node.the_row).coded) a b cc

pub same_blocks : (xs ys : List Block) → map told xs ≡ map told ys → xs ≡ ys
same_blocks xs ys e = map-one told (λ a b t. same_block a b (ap (λ p. p.0) t) (ap (λ p. p.1) t)) xs ys e

pub same_code : (a b : Code) → a.n ≡ b.n → a.k ≡ b.k → a.c ≡ b.c → a ≡ b
same_code a b n k c = values_one code.struct code.the_propositions a b cc
