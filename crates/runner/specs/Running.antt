-- A script that was run: its log is the history of a run, keeps the promises, and has the script's calls.
use Rattle.std.specs.Prelude.{◌≡◌, ℕ, List, [], ◌++◌, length, map, Err}
use Rattle.market.specs.declared.interface.Market as market
use Rattle.device.specs.declared.Device as device
use Rattle.protocol.specs.declared.faults.ExchangeFault.{ExchangeFault}
use Rattle.protocol.specs.Worlds.{rules_of}
use Rattle.protocol.specs.Steps.{SetsUp}
use Rattle.protocol.specs.Promises as promises
use Rattle.exchange.specs.declared.state.Exchange.{Exchange}
use Rattle.exchange.specs.Views.{view}
use Rattle.runner.specs.declared.log.Entry.{Entry}
use Rattle.runner.specs.declared.script.Call.{Call}
use Rattle.runner.specs.declared.hands.Hand.{Hand}
use Rattle.runner.specs.Tokens.{Tokens, no_tokens}
use Rattle.runner.specs.Hands.{tokens_of}
use Rattle.runner.specs.Events.{history}
use Rattle.runner.specs.Playing.{Asked, Played, made, spends_all}

module _ {M D : Type 0} (m : market.Ghosts M) (d : device.Ghosts D) where
  -- just set up
  abbrev pub Begun : Exchange M D → Type 0
  Begun x = promises.Run (rules_of m) [] (view m d x)

  -- a run whose history is a log's goes on to be that of a longer one
  abbrev pub WentOn : Exchange M D → List Entry → Exchange M D → List Entry → Type 0
  WentOn x es y fs = promises.Run (rules_of m) (history es) (view m d x) → promises.Run (rules_of m) (history fs) (view m d y)

  -- a script's calls are made, and their entries added to the log
  pub record PlayedOn (x : Exchange M D) (h : Hand) (es : List Entry) (script : List Call) (y : Exchange M D) (k : Hand) (fs : List Entry) : Type 0 where
    pub run : WentOn x es y fs
    pub new : List Entry
    pub log : fs ≡ es ++ new
    pub played : Played (tokens_of h) script new (tokens_of k)

  -- tokens are spent, and the entries of that added to the log: of all calls that it takes, these are still left
  pub record Closed (x : Exchange M D) (es : List Entry) (y : Exchange M D) (fs : List Entry) (all left : List Asked) : Type 0 where
    pub run : WentOn x es y fs
    pub new : List Entry
    pub log : fs ≡ es ++ new
    pub spends : all ≡ map made new ++ left

  -- The log's history is a run that led to this exchange, and keeps the promises; its calls are the script's, each with the
  -- token that it names, and then, from `closing` on, those that spend what tokens are left, and no others.
  pub record Finished (script : List Call) (log : List Entry) (closing : ℕ) (x : Exchange M D) : Type 0 where
    pub run : promises.Run (rules_of m) (history log) (view m d x)
    pub promises : promises.Promised (rules_of m) (history log) (view m d x)
    pub main : List Entry
    pub rest : List Entry
    pub whole : log ≡ main ++ rest
    pub place : closing ≡ length main
    pub left : Tokens
    pub played : Played no_tokens script main left
    pub spends : map made rest ≡ spends_all left

  -- the set-up was refused, or cut
  abbrev pub NotBegun : Exchange M D → ExchangeFault → Exchange M D → Type 0
  NotBegun x f y = SetsUp (rules_of m) (view m d x) (Err f) (view m d y)
