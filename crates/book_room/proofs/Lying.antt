-- A room that holds a book: its size, its numbers, and the indexes as their functions ask for them.
-- Assumes nothing.
use mathlib.Core.Path.{◌≡◌, refl, ap, ap₂, ◌∙◌, sym, subst}
use mathlib.Core.List.{List, [], ◌∷◌}
use Prim.Native.Nat.{ℕ, ◌+◌, ◌*◌, ◌<◌}
use native.Mathlib.Omega.{arith}
use lib.ListN.{length, get_or, take, drop, length-append, length-map}
use Rattle.book_index.specs.Chains.{Indexed, index_of}
use Rattle.book_index.specs.Pairs.{Paired}
use Rattle.book_index.proofs.Laws.{length_index}
use Rattle.book.specs.Lookup.{front_of, back_of}
use Rattle.book.specs.Rule.{Apart, Distinct, Kept}
use Rattle.book.specs.Tables.{Book, Tables, backs_of, fronts_of, ids_of, view}
use Rattle.book.specs.declared.tables.Inside.{Inside}
use Rattle.book.specs.declared.tables.OpeningRule.{OpeningRule}
use Rattle.book.specs.declared.tables.OpeningRule.TheVariants.{Default, Strict}
use Rattle.book.proofs.Carrying.{live_is, held-is, keys_are, fronts_are, backs_are}
use Rattle.book.proofs.Steps.{front_keys}
use Rattle.book_room.specs.Room.{Filled, Lies, numbers_of, room_of, row_of, rows_of, rule_by, rule_number}
use Rattle.book_room.proofs.Parts.{Sized, at_backs, at_fronts, at_index, at_keys, at_numbers, at_symbols, get_part, read_part, size}

pub length_rows : (is : List Inside) → length (rows_of is) ≡ 6 * length is
unfolding rows_of
length_rows [] = refl
length_rows (i ∷ is) = length-append (row_of i) (rows_of is) ∙ omega (arith, length_rows is)

pub filled : {room : List ℕ} {next end : ℕ} {b : Book} → Lies room next end b → Filled room next end b
filled l =
    record {
      is = l.is;
      live = l.kept.live;
      held = l.kept.held;
      keys = l.kept.keys;
      insides = l.kept.insides;
      fronts = l.kept.fronts;
      backs = l.kept.backs;
    }

module _ (next end : ℕ) (b : Book) (keys : length b.keys ≡ 256) (insides : length b.insides ≡ 64) (fronts : length b.fronts ≡ 64) (backs : length b.backs ≡ 64) where
  sizes : Sized (numbers_of next end b) b.keys (index_of (take b.live b.keys)) (index_of (take b.held b.fronts)) b.fronts b.backs (rows_of b.insides)
  sizes =
      record {
        numbers = refl;
        keys = keys;
        index = length_index (take b.live b.keys);
        symbols = length_index (take b.held b.fronts);
        fronts = fronts;
        backs = backs;
        rows = length_rows b.insides ∙ omega arith;
      }

  pub length_room : length (room_of next end b) ≡ 2308
  length_room = size sizes

pub sized : {room : List ℕ} {next end : ℕ} {b : Book} → Filled room next end b
    → Sized (numbers_of next end b) b.keys (index_of (take b.live b.keys)) (index_of (take b.held b.fronts)) b.fronts b.backs (rows_of b.insides)
sized {next = next} {end = end} {b = b} fill = sizes next end b fill.keys fill.insides fill.fronts fill.backs

-- the live keys are apart, and so are the symbols of the insides held
module _ {b : Book} (kept : Kept b) where
  pub ids_apart : Distinct (take b.live b.keys)
  ids_apart =
      let t : Tables = view b in
      subst Distinct
      (sym (front_keys 256 (ids_of t.orders) (keys_are b kept.same) (live_is b kept.same ∙ sym (length-map t.orders (λ o. o.id)))))
      kept.sound.distinct

  pub symbols_apart : Apart (take b.held b.fronts) (take b.held b.backs)
  symbols_apart =
      let t : Tables = view b in
      let fronts : fronts_of t.insides ≡ take b.held b.fronts =
      sym (front_keys 64 (fronts_of t.insides) (fronts_are b kept.same) (held-is b kept.same ∙ sym (length-map t.insides (λ i. front_of i.symbol))))
      in
      let backs : backs_of t.insides ≡ take b.held b.backs =
      sym (front_keys 64 (backs_of t.insides) (backs_are b kept.same) (held-is b kept.same ∙ sym (length-map t.insides (λ i. back_of i.symbol))))
      in
      subst (λ (l : List ℕ). Apart l (take b.held b.backs)) fronts (subst (Apart (fronts_of t.insides)) backs kept.sound.apart)

-- a rule's number is the rule's
pub rule_by_lem : (rule : OpeningRule) → rule_by (rule_number rule) ≡ rule
rule_by_lem Default = refl
rule_by_lem Strict = refl

module _ {room : List ℕ} {next end : ℕ} {b : Book} (fill : Filled room next end b) where
  z : Sized (numbers_of next end b) b.keys (index_of (take b.live b.keys)) (index_of (take b.held b.fronts)) b.fronts b.backs (rows_of b.insides)
  z = sized fill

  pub long : length room ≡ 2308
  long = ap length fill.is ∙ size z

  -- a number at the front
  pub number_at : (i : ℕ) → i < 10 → get_or room i 0 ≡ get_or (numbers_of next end b) i 0
  number_at i h =
      let e : i ≡ 0 + i = omega arith in
      ap₂ (λ (l : List ℕ) (k : ℕ). get_or l k 0) fill.is e ∙ get_part (at_numbers z) (numbers_of next end b) i h

  pub live_at : get_or room 2 0 ≡ b.live
  live_at = number_at 2 (omega arith)

  pub held_at : get_or room 3 0 ≡ b.held
  held_at = number_at 3 (omega arith)

  -- the rule, by its number
  pub rule_at : rule_by (get_or room 8 0) ≡ b.unlisted.rule
  rule_at = ap rule_by (number_at 8 (omega arith)) ∙ rule_by_lem b.unlisted.rule

  pub keys_at : take 256 (drop 10 room) ≡ b.keys
  keys_at = ap (λ (l : List ℕ). take 256 (drop 10 l)) fill.is ∙ read_part (at_keys z) b.keys 256 z.keys

  pub index_at : take 765 (drop 266 room) ≡ index_of (take b.live b.keys)
  index_at = ap (λ (l : List ℕ). take 765 (drop 266 l)) fill.is ∙ read_part (at_index z) (index_of (take b.live b.keys)) 765 z.index

  pub symbols_at : take 765 (drop 1031 room) ≡ index_of (take b.held b.fronts)
  symbols_at = ap (λ (l : List ℕ). take 765 (drop 1031 l)) fill.is ∙ read_part (at_symbols z) (index_of (take b.held b.fronts)) 765 z.symbols

  pub fronts_at : take 64 (drop 1796 room) ≡ b.fronts
  fronts_at = ap (λ (l : List ℕ). take 64 (drop 1796 l)) fill.is ∙ read_part (at_fronts z) b.fronts 64 z.fronts

  pub backs_at : take 64 (drop 1860 room) ≡ b.backs
  backs_at = ap (λ (l : List ℕ). take 64 (drop 1860 l)) fill.is ∙ read_part (at_backs z) b.backs 64 z.backs

  pub indexed : Indexed (take 765 (drop 266 room)) (take 256 (drop 10 room)) (get_or room 2 0)
  indexed =
      record {
        few = omega (arith, live_at, fill.live);
        size = ap length keys_at ∙ fill.keys;
        is = index_at ∙ ap₂ (λ (n : ℕ) (l : List ℕ). index_of (take n l)) (sym live_at) (sym keys_at);
      }

  pub paired : Paired (take 765 (drop 1031 room)) (take 64 (drop 1796 room)) (take 64 (drop 1860 room)) (get_or room 3 0)
  paired =
      record {
        few = omega (arith, held_at, fill.held);
        fronts = ap length fronts_at ∙ fill.fronts;
        backs = ap length backs_at ∙ fill.backs;
        is = symbols_at ∙ ap₂ (λ (n : ℕ) (l : List ℕ). index_of (take n l)) (sym held_at) (sym fronts_at);
      }
