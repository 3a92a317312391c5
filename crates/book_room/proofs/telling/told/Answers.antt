-- A Top of Book's inside is looked up, and no other message's.
-- Assumes nothing.
use mathlib.Core.Path.{◌≡◌, ap, refl, sym, ◌∙◌}
use mathlib.Core.List.{List}
use Prim.Native.Nat.{ℕ}
use lib.ListN.{take}
use Rattle.message.specs.Layouts.{type_in}
use Rattle.message.specs.Row.{no_text}
use Rattle.book.specs.Lookup.{symbol_at}
use Rattle.book.specs.declared.tables.Inside.{Inside}
use Rattle.book.proofs.Types.{top_room, top_topic, topic_none}
use Rattle.book_room.proofs.Finds.{no_symbol}
use Rattle.book_room.proofs.telling.told.Goals as goal
use Rattle.book_room.proofs.telling.told.Goals.{Else-number_at-number}

top : (c : Else-number_at-number) → type_in c.args.bytes.now ≡ 26
top c = sym c.number_at.ensures ∙ c.if-number_at-number.false ∙ c.number.ensures

pub returns-then-number_at-number : goal.returns-then-number_at-number
returns-then-number_at-number c next end b lies =
    no_symbol no_text b.fronts b.backs b.held refl refl refl
    ∙ ap (λ (l : List ℕ). symbol_at l (take b.held b.fronts) (take b.held b.backs))
    (topic_none c.args.bytes.now c.number_at.ensures (λ e. c.if-number_at-number.true (e ∙ sym c.number.ensures)))

pub inside_of-requires : goal.inside_of-requires
inside_of-requires c = top_room c.args.bytes.now (top (goal.at.inside_of-requires c).Else-number_at-number) c.requires.whole

pub returns : goal.returns
returns c next end b lies =
    c.held_at.ensures next end b lies
    ∙ ap (λ (l : List ℕ). symbol_at l (take b.held b.fronts) (take b.held b.backs))
    (ap (λ (i : Inside). i.symbol) c.inside_of.ensures ∙ top_topic c.args.bytes.now (top (goal.at.returns c).Else-number_at-number))
