-- `lines::put_refusal` meets its contract: the number that is printed is the refusal's own, and so is the node.
-- Assumes nothing.
use Rattle.std.proofs.Common.{◌≡◌, refl, [], ◌∷◌, ℕ, length, arith, ap, ⊎_elim}
use Rattle.rules.specs.Refusals.{number, named, fault_number, fault_node}
use Rattle.rules.specs.Replay.{line, refusal_line}
use Rattle.rules.proofs.Laws.Lines.{OfTree, names_a_node_or_nothing, refusal_line_most}
use Rattle.rules.specs.declared.tree.Fault.{Fault}
use Rattle.rules.specs.declared.refusals.Refusal.{Refusal}
use Rattle.rules.specs.declared.refusals.Refusal.TheVariants.{BadTree}
use Rattle.lines.proofs.Room.{line_written, line_room}
use Rattle.lines.proofs.put_refusal.Goals as goal

-- ---- a fault of the tree
fault-line : {x : Refusal} {f : Fault} {number node : ℕ} → x ≡ BadTree f → number ≡ fault_number f → node ≡ fault_node f
    → line 82 (number ∷ node ∷ []) ≡ refusal_line x
unfolding refusal_line
fault-line e i j = rw (e, i, j)

-- ---- and any other refusal names nothing
other-line : (x : Refusal) {n : ℕ} → ((f : Fault) → x ≡ BadTree f → ⊥) → n ≡ number x → line 82 (n ∷ []) ≡ refusal_line x
unfolding refusal_line
other-line x other e =
    let nothing : named x ≡ [] =
    ⊎_elim (λ (w : OfTree x). absurd (other w.fault w.is)) (λ (e : named x ≡ []). e) (names_a_node_or_nothing x) in
    rw (e, nothing)

pub put_line-requires : goal.put_line-requires
put_line-requires c =
    let is = fault-line c.in-BadTree.is c.fault_number.ensures c.fault_node.ensures in
    omega (arith, line_room 82 (c.fault_number.result ∷ c.fault_node.result ∷ []), ap length is, refusal_line_most c.args.x)

pub put_line-requires-in_default : goal.put_line-requires-in_default
put_line-requires-in_default c =
    let is = other-line c.args.x c.in_default.not-BadTree c.number_of.ensures in
    omega (arith, line_room 82 (c.number_of.result ∷ []), ap length is, refusal_line_most c.args.x)

pub returns-in-BadTree : goal.returns-in-BadTree
returns-in-BadTree c =
    let is = fault-line c.in-BadTree.is c.fault_number.ensures c.fault_node.ensures in
    rw is at (line_written 82 (c.fault_number.result ∷ c.fault_node.result ∷ []) _ c.put_line.result c.args.out.now c.put_line.new.out refl c.put_line.ensures)

pub returns-in_default : goal.returns-in_default
returns-in_default c =
    let is = other-line c.args.x c.in_default.not-BadTree c.number_of.ensures in
    rw is at (line_written 82 (c.number_of.result ∷ []) _ c.put_line-in_default.result c.args.out.now c.put_line-in_default.new.out refl c.put_line-in_default.ensures)
