-- Notices, their kinds and their numbers.
use Rattle.std.specs.Prelude.{ℕ, ◌+◌, List, [], ◌∷◌, ◌++◌, take, drop}
use Rattle.records.specs.declared.notices.Kind.{Kind}
use Rattle.records.specs.declared.notices.Kind.TheVariants.{Fill, Dropped, Cancelled}
use Rattle.records.specs.declared.notices.Notice.{Notice}

-- what happened to the lots of a notice, by its number
abbrev pub kind_of_notice : Kind → ℕ
kind_of_notice Fill = 1
kind_of_notice Dropped = 2
kind_of_notice Cancelled = 3

-- the notice under number n
abbrev pub numbered : ℕ → Notice → Notice
numbered n v = record { number = record { 0 = n }; command = v.command; kind = v.kind; a = v.a; b = v.b; price = v.price; lots = v.lots }

-- the notices under the numbers that follow n
abbrev pub counted : ℕ → List Notice → List Notice
counted n [] = []
counted n (v ∷ vs) = numbered (n + 1) v ∷ counted (n + 1) vs

-- the first n notices of a list, counted on from k
abbrev pub counted_front : ℕ → ℕ → List Notice → List Notice
counted_front k n vs = counted k (take n vs) ++ drop n vs
