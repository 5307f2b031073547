use Rattle.runs.proofs.Coming.{same_self, same_twice, same_full, same_snapshot}
use Rattle.runs.proofs.floor.Floor.write_page.Goals as goal

pub returns-in-Ok : goal.returns-in-Ok
returns-in-Ok g c = record { written = record { from = c.args.self.now.exchange; kept = same_self c.args.self.now.exchange; wrote = c.in-Ok.ensures.did } }

pub returns-in_ok-write-in-JournalFull : goal.returns-in_ok-write-in-JournalFull
returns-in_ok-write-in-JournalFull g c = record {
  written = record {
    from = c.take_snapshot.new.self.exchange;
    kept = same_twice c.args.self.now.exchange c.write.new.self c.take_snapshot.new.self.exchange
        (same_full g.M.Market g.D.Device c.args.self.now.exchange c.write.new.self c.in-Err.fault c.in-Err.ensures.did c.in-JournalFull.is)
        (same_snapshot g.M.Market g.D.Device c.write.new.self c.take_snapshot.new.self.exchange c.in_ok-take_snapshot-in-JournalFull.ensures.taken);
    wrote = c.in_ok-write-in-JournalFull.ensures.did;
  };
}
