use Rattle.std.proofs.Common.{rules, Ok, Err, Some, None, vec_items, refl}
use Rattle.protocol.specs.Steps.{Stage, Write, Sync, Deliver, Snapshot, Restart, Open, Replay}
use Rattle.runner.specs.Events.{handed_out}
use Rattle.audit.proofs.Reading.{on_ok, on_any, read_entry}
use Rattle.audit.proofs.readings.Reader.note.Goals as goal

pub returns-then-was_cut : goal.returns-then-was_cut
returns-then-was_cut g c = on_ok c.sends_in_the_dark.result (λ k. read_entry g.M.Market c.args.entry.now (Write (Err c.in-Write-Err.fault)) c.args.self.now c.sends_in_the_dark.new.self (search rules) (k c.in-Write-Err.fault (search rules))) c.sends_in_the_dark.ensures

pub returns-in-Stage-default-Ok : goal.returns-in-Stage-default-Ok
returns-in-Stage-default-Ok g c = on_ok c.drafts.result (λ k. read_entry g.M.Market c.args.entry.now (Stage c.deref.result.now (Ok c.in-Stage-default-Ok.field-1-0)) c.args.self.now c.drafts.new.self (search rules) (k c.in-Stage-default-Ok.field-1-0)) c.drafts.ensures

pub returns-in-Write-Ok : goal.returns-in-Write-Ok
returns-in-Write-Ok g c = on_ok c.sends.result (λ k. read_entry g.M.Market c.args.entry.now (Write (Ok c.in-Write-Ok.field-0-0)) c.args.self.now c.sends.new.self (search rules) (k c.in-Write-Ok.field-0-0)) c.sends.ensures.sent

pub returns-in-Replay-default-Ok-None : goal.returns-in-Replay-default-Ok-None
returns-in-Replay-default-Ok-None g c = read_entry g.M.Market c.args.entry.now (Replay c.in-Replay-default-Ok-None.field-0 (Ok None)) c.args.self.now c.reaches.new.self (search rules) (c.reaches.ensures c.in-Replay-default-Ok-None.field-0)

pub returns-in-Open-Ok : goal.returns-in-Open-Ok
returns-in-Open-Ok g c = on_ok c.opens.result (λ k. read_entry g.M.Market c.args.entry.now (Open (Ok c.in-Open-Ok.field-0-0)) c.args.self.now c.opens.new.self (search rules) (k c.in-Open-Ok.field-0-0)) c.opens.ensures

pub returns-in-Restart : goal.returns-in-Restart
returns-in-Restart g c = read_entry g.M.Market c.args.entry.now Restart c.args.self.now c.breaks.new.self (search rules) (c.breaks.ensures Restart (search rules))

pub returns-in-Stage-default-Err : goal.returns-in-Stage-default-Err
returns-in-Stage-default-Err g c = on_any c.refused.result (read_entry g.M.Market c.args.entry.now (Stage (vec_items c.in-Stage-default-Err.field-0) (Err c.in-Stage-default-Err.fault)) c.args.self.now c.refused.new.self (search rules) (c.refused.ensures (Stage (vec_items c.in-Stage-default-Err.field-0) (Err c.in-Stage-default-Err.fault)) refl))

pub returns-in-Sync-default-default-Err : goal.returns-in-Sync-default-default-Err
returns-in-Sync-default-default-Err g c = on_any c.refused-in-Sync-default-default-Err.result (read_entry g.M.Market c.args.entry.now (Sync c.in-Sync-default-default-Err.field-0 c.in-Sync-default-default-Err.field-1 (Err c.in-Sync-default-default-Err.fault)) c.args.self.now c.refused-in-Sync-default-default-Err.new.self (search rules) (c.refused-in-Sync-default-default-Err.ensures (Sync c.in-Sync-default-default-Err.field-0 c.in-Sync-default-default-Err.field-1 (Err c.in-Sync-default-default-Err.fault)) refl))

pub returns-in-Replay-default-Err : goal.returns-in-Replay-default-Err
returns-in-Replay-default-Err g c = on_any c.refused-in-Replay-default-Err.result (read_entry g.M.Market c.args.entry.now (Replay c.in-Replay-default-Err.field-0 (Err c.in-Replay-default-Err.fault)) c.args.self.now c.refused-in-Replay-default-Err.new.self (search rules) (c.refused-in-Replay-default-Err.ensures (Replay c.in-Replay-default-Err.field-0 (Err c.in-Replay-default-Err.fault)) refl))

pub returns-in-Deliver-default-Err : goal.returns-in-Deliver-default-Err
returns-in-Deliver-default-Err g c = on_any c.refused-in-Deliver-default-Err.result (read_entry g.M.Market c.args.entry.now (Deliver c.in-Deliver-default-Err.field-0 (Err c.in-Deliver-default-Err.fault)) c.args.self.now c.refused-in-Deliver-default-Err.new.self (search rules) (c.refused-in-Deliver-default-Err.ensures (Deliver c.in-Deliver-default-Err.field-0 (Err c.in-Deliver-default-Err.fault)) refl))

pub returns-in-Open-Err : goal.returns-in-Open-Err
returns-in-Open-Err g c = on_any c.refused-in-Open-Err.result (read_entry g.M.Market c.args.entry.now (Open (Err c.in-Open-Err.fault)) c.args.self.now c.refused-in-Open-Err.new.self (search rules) (c.refused-in-Open-Err.ensures (Open (Err c.in-Open-Err.fault)) refl))

pub returns-in-Snapshot-Err : goal.returns-in-Snapshot-Err
returns-in-Snapshot-Err g c = on_any c.refused-in-Snapshot-Err.result (read_entry g.M.Market c.args.entry.now (Snapshot (Err c.in-Snapshot-Err.fault)) c.args.self.now c.refused-in-Snapshot-Err.new.self (search rules) (c.refused-in-Snapshot-Err.ensures (Snapshot (Err c.in-Snapshot-Err.fault)) refl))

pub returns-in-Sync-default-default-Ok : goal.returns-in-Sync-default-default-Ok
returns-in-Sync-default-default-Ok g c = on_ok c.answers.result (λ k. read_entry g.M.Market c.args.entry.now (Sync c.in-Sync-default-default-Ok.field-0 c.in-Sync-default-default-Ok.field-1 (Ok (handed_out c.in-Sync-default-default-Ok.handed))) c.args.self.now c.answers.new.self (search rules) (k c.in-Sync-default-default-Ok.field-0 c.in-Sync-default-default-Ok.field-1)) c.answers.ensures.synced

pub returns-in-Replay-default-Ok-Some : goal.returns-in-Replay-default-Ok-Some
returns-in-Replay-default-Ok-Some g c = on_ok c.answers-in-Replay-default-Ok-Some.result (λ k. read_entry g.M.Market c.args.entry.now (Replay c.in-Replay-default-Ok-Some.field-0 (Ok (Some (handed_out c.in-Replay-default-Ok-Some.handed)))) c.args.self.now c.answers-in-Replay-default-Ok-Some.new.self (search rules) (k c.in-Replay-default-Ok-Some.field-0)) c.answers-in-Replay-default-Ok-Some.ensures.replayed
