-- What a line asks for. Assumes nothing.
use Rattle.std.specs.Prelude.{◌≡◌, ℕ, cond, ◌⊎◌, List, [], ◌∷◌, Some, None, Ok, Err, vec_items, codes, Option, Result}
use Rattle.std.specs.Str.{bytes_eq}
use Rattle.names.specs.Names.{name_of}
use Rattle.names.specs.declared.naming.Name.{Name}
use Rattle.text.specs.Readings.{words_of}
use Rattle.text.specs.Tokens.{Word}
use Rattle.text.specs.declared.faults.Fault.{Fault}
use Rattle.cases.specs.declared.operations.Operation.{Operation}
use Rattle.cases.specs.declared.operations.Operation.TheVariants.{Times}
use Rattle.cases.specs.declared.questions.Question.{Question}
use Rattle.cases.specs.declared.troubles.Trouble.{Trouble}
use Rattle.cases.specs.declared.troubles.Trouble.TheVariants.{UnknownKind, UnknownOperation, BadText, Memory}

-- the operation with this name
abbrev pub operation_of : List ℕ → Option Operation
operation_of bs = cond (bytes_eq bs (codes "times")) (Some Times) None

-- a case: the offset that it begins at, the kind, the operation, and the words of the operands
pub record Case : Type 0 where
  pub at : ℕ
  pub name : Name
  pub operation : Operation
  pub words : List ℕ

-- a case that begins with the token k, with the words of the operands
abbrev pub with_words : Word → Name → Operation → Result (List ℕ) Fault → Result Case Trouble
with_words k name op (Ok ws) = Ok (record { at = k.offset; name = name; operation = op; words = ws })
with_words k name op (Err f) = Err (BadText f)

-- a case with the operation that the token w names, and the words behind it
abbrev pub with_operation : Word → Name → Word → Option Operation → List Word → Result Case Trouble
with_operation k name w None ws = Err (UnknownOperation w.offset)
with_operation k name w (Some op) ws = with_words k name op (words_of ws)

-- a case with the kind that the token k names, with the operation and the words behind it
abbrev pub with_kind : Word → Option Name → List Word → Result Case Trouble
with_kind k None ws = Err (UnknownKind k.offset)
with_kind k (Some name) [] = Err (UnknownOperation k.offset)
with_kind k (Some name) (w ∷ ws) = with_operation k name w (operation_of w.bytes) ws

-- what a line with the first token k asks for
abbrev pub asked : Word → List Word → Result Case Trouble
asked k ws = with_kind k (name_of k.bytes) ws

-- a question of the code
abbrev pub contents : Question → Case
contents q = record { at = q.at; name = q.name; operation = q.operation; words = vec_items q.words }

-- what is found in a line with the first token k, unless memory runs out
abbrev pub Asked : Word → List Word → Result Question Trouble → Type 0
Asked k ws (Ok q) = asked k ws ≡ Ok (contents q)
Asked k ws (Err t) = (asked k ws ≡ Err t) ⊎ (t ≡ Memory)
