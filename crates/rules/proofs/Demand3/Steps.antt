-- One call, of any kind and with any arguments, upon any sound state: the state stays sound, what is charged is paid from
-- what was saved and generated, and each leaf's books stay even.
-- Assumes nothing.
use Rattle.std.specs.Prelude.{◌≡◌, ℕ, ◌+◌, ◌*◌, ◌≤◌}
use Rattle.std.proofs.Common.{arith}
use Rattle.rules.specs.Numbers.{whole}
use Rattle.rules.specs.Invariant.{Sound}
use Rattle.rules.specs.Ledger.{Call, after, waiting, owed, accepted, issued, released, repaid, forgiven, generated, charged, saved}
use Rattle.rules.specs.Ledger.Call.{submit, ask, tick, plan, set}
use Rattle.rules.proofs.Laws.Ticks.{ticked_keeps, tick_flow, tick_books}
use Rattle.rules.proofs.Laws.Plans.{planned_keeps, plan_flow, plan_books}
use Rattle.rules.proofs.Laws.Settings.{set_keeps, set_flow, set_books}
use Rattle.rules.proofs.Laws.Submits.{submit_keeps, submit_flow, submit_books}
use Rattle.rules.proofs.Laws.Questions.{asking_flows}
use Rattle.rules.specs.declared.budget.Controller.{Controller}

pub call_keeps : (k : Call) {c : Controller} → Sound c → Sound (after k c)
call_keeps (submit b) sound = submit_keeps sound b
call_keeps (ask b) sound = sound
call_keeps (tick time lent) sound = ticked_keeps sound time lent
call_keeps plan sound = planned_keeps sound
call_keeps (set x) sound = set_keeps x sound

-- in WHOLEths: what the call charges and what is saved after it, against what was saved and what it generates
pub call_flow : (k : Call) {c : Controller} → Sound c → charged k c * whole + saved (after k c) ≤ saved c + generated k c * whole
call_flow (submit b) sound = submit_flow sound b
call_flow (ask b) sound = asking_flows b _
call_flow (tick time lent) sound = tick_flow sound time lent
call_flow plan sound = plan_flow sound
call_flow (set x) sound = set_flow x sound

pub call_books : (k : Call) {c : Controller} → Sound c → (n : ℕ)
    → waiting (after k c) n + owed (after k c) n + issued k c n + released k c n + repaid k c n + forgiven k c n
    ≡ waiting c n + owed c n + accepted k c n
unfolding issued released repaid forgiven accepted
call_books (submit b) sound n = omega (arith, submit_books sound b n)
call_books (ask b) sound n = omega arith
call_books (tick time lent) sound n = omega (arith, tick_books sound time lent n)
call_books plan sound n = omega (arith, plan_books sound n)
call_books (set x) sound n = omega (arith, set_books x sound n)
