use Rattle.std.proofs.Common.{arith, rules}
use Rattle.std.proofs.lemmas.Bool.Decides.{nat_tests}
use Rattle.records.specs.Commands.{decoded}
use Rattle.records.specs.declared.kinds.RecordKind.TheVariants.{Enter, Cancel, Cross}
use Rattle.records.proofs.CommandLaws.{other_kind}
use Rattle.records.proofs.commands.codes.command_in.Goals as goal
use Rattle.records.proofs.commands.codes.command_in.Goals.{in-Enter-eq18+in_ok-command-in-Enter-eq18, in-Cancel-eq16, in-Cross-eq4}

pub returns-then-n-lt4 : goal.returns-then-n-lt4
unfolding decoded
returns-then-n-lt4 c = search rules

pub returns-in_err-kind_in : goal.returns-in_err-kind_in
unfolding decoded
returns-in_err-kind_in c = let n = c.in_err-kind_in.ensures in let a = n Enter in let b = n Cancel in let d = n Cross in search rules

pub returns-in_err-command-in-Enter-eq18 : goal.returns-in_err-command-in-Enter-eq18
unfolding decoded
returns-in_err-command-in-Enter-eq18 c = search rules

pub returns-in_default : goal.returns-in_default
unfolding decoded
returns-in_default c = let e = rw c.in_default.is-0 at c.in_ok-kind_in.ensures in search rules

pub returns-in_default-2 : goal.returns-in_default-2
unfolding decoded
returns-in_default-2 c = let e = rw c.in_default.is-0 at c.in_ok-kind_in.ensures in search rules

pub returns-in_default-3 : goal.returns-in_default-3
unfolding decoded
returns-in_default-3 c = let e = rw c.in_default.is-0 at c.in_ok-kind_in.ensures in search rules

pub returns-in_default-4 : goal.returns-in_default-4
returns-in_default-4 c = let d = c.in_default in other_kind _ _ d.not-Enter-0 d.not-Cancel-0 d.not-Cross-0 c.in_ok-kind_in.ensures

pub returns : goal.returns
unfolding decoded
returns c =
    let g = c.is_good.ensures in
    let t = c.then_some.ensures in
    let e = c.in_ok-kind_in.ensures in
    elim c.match-branch-2.branch [
      | in-Enter-eq18+in_ok-command-in-Enter-eq18 w ↦ let f = w.command-is in let k = rw w.in-Enter-eq18.is-0 at e in grind (arith, nat_tests)
      | in-Cancel-eq16 w ↦ let f = w.command-is in let k = rw w.in-Cancel-eq16.is-0 at e in grind (arith, nat_tests)
      | in-Cross-eq4 w ↦ let f = w.command-is in let k = rw w.in-Cross-eq4.is-0 at e in search rules
    ]
