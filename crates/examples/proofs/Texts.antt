-- A message made with a text that another function gives.
-- Assumes nothing.
use mathlib.Core.Path.{◌≡◌, ap}
use mathlib.Core.List.{List}
use Prim.Native.Nat.{ℕ}
use Rattle.message.specs.declared.kinds.Message.{Message}
use Rattle.message.specs.declared.kinds.Body.{Body}

abbrev with : List ℕ → List ℕ → List ℕ → Body → Message
with id symbol firm body = record { id = id; symbol = symbol; firm = firm; body = body }

pub id_is : {a b symbol firm : List ℕ} {body : Body} → a ≡ b → with a symbol firm body ≡ with b symbol firm body
id_is {symbol = symbol} {firm} {body} p = ap (λ (id : List ℕ). with id symbol firm body) p

pub symbol_is : {a b id firm : List ℕ} {body : Body} → a ≡ b → with id a firm body ≡ with id b firm body
symbol_is {id = id} {firm} {body} p = ap (λ (symbol : List ℕ). with id symbol firm body) p
