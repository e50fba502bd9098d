-- The first token, or none.
use Rattle.std.proofs.Common.{◌≡◌, ◌+◌, ◌-◌, take, drop, ap, rules, tests, arith}
use Rattle.std.specs.Char.{is_ascii_whitespace}
use Rattle.std.specs.List.{position_or_len}
use Rattle.text.specs.Tokens.{run}
use Rattle.text.proofs.Steps.{in_token, no_token, token_next}
use Rattle.text.proofs.tokens.Reader.peek.Goals as goal

pub returns-then-at-self-clause-first : goal.returns-then-at-self-clause-first
returns-then-at-self-clause-first c =
    no_token c.args.self.now.text.now c.args.self.now.at c.end-at.result
    (c.end-at.ensures.offset in_token (λ b r k. search (rules, tests))) c.if-at-self.true

pub returns-clause-first : goal.returns-clause-first
returns-clause-first c =
    let bs = c.args.self.now.text.now in
    let a = c.end-at.result in
    let cut : c.end.result ≡ a + position_or_len is_ascii_whitespace (drop a bs) = c.end.ensures.offset is_ascii_whitespace (λ b r k. search (rules, tests)) in
    let word : take (c.end.result - a) (drop a bs) ≡ run (drop a bs) = ap (λ n. take n (drop a bs)) (omega (arith, cut)) in
    token_next bs c.args.self.now.at a (c.end-at.ensures.offset in_token (λ b r k. search (rules, tests))) _ c.if-at-self.false word
