-- The place of a word that is too large, as element and exponent.
use Rattle.std.proofs.Common.{rules}
use Rattle.kinds.proofs.Reading.{unread_at}
use Rattle.kinds.proofs.words.judge.Goals as goal

pub returns-in-Some : goal.returns-in-Some
returns-in-Some g c =
    unread_at g.K.Kind.coding c.args.m c.args.words.now c.in-Some.place _ _
    (search rules) (search rules) (search rules) (search rules) (search rules)
