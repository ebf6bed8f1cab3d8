-- What a call says ('Causes, numbers, places').

use Rattle.std.specs.Prelude.{ℕ, Option, Some, None, Result, Ok, Err}
use Rattle.std.proofs.Math.Option as maybe
use Rattle.words.specs.declared.Cause.{Cause}
use Rattle.words.specs.declared.Fault.{Fault}
use Rattle.words.specs.declared.Fault.TheVariants.{FirstWord, Structure, Pattern, Field}
use Rattle.words.specs.declared.Refusal.{Refusal}
use Rattle.words.specs.declared.Refusal.TheVariants as refusal

-- Its result; or the first fault of a table, 1 to 4, by number and place; or another refusal: the cause's number, with the place and
-- the word that are returned with it, zero where none is. Faults stand apart, so that each case of an answer's enum says another thing.
pub data Outcome (A : Type 0) : Type 0 where
  result : A → Outcome A
  faulty : (number place : ℕ) → Outcome A
  refused : (number place word : ℕ) → Outcome A

-- the paper's number of each fault of a table
abbrev pub number_of : Fault → ℕ
number_of FirstWord = 1
number_of Structure = 2
number_of Pattern = 3
number_of Field = 4

-- the paper's number and values for each case of what refuses
abbrev pub refused_as : {A : Type 0} → Refusal → Outcome A
refused_as (refusal.Faulty f p) = faulty (number_of f) p
refused_as refusal.NoFit = refused 5 0 0
refused_as (refusal.Ambiguous w) = refused 6 0 w
refused_as refusal.TooWide = refused 7 0 0
refused_as refusal.BadHeader = refused 8 0 0
refused_as (refusal.Damaged i) = refused 9 i 0
refused_as refusal.ShortBuffer = refused 10 0 0
refused_as refusal.NoEntry = refused 11 0 0
refused_as (refusal.Misfit i) = refused 12 i 0
refused_as (refusal.NotSelected w) = refused 13 0 w
refused_as refusal.BadTree = refused 14 0 0
refused_as refusal.BadTable = refused 15 0 0
refused_as refusal.BadImage = refused 16 0 0
refused_as (refusal.Full a) = refused 17 a 0
refused_as refusal.NoRoom = refused 18 0 0
refused_as (refusal.Unreached e) = refused 19 e 0

-- what an answer says: its result, as `meant` reads it; or what refuses
abbrev pub said_as : {A B : Type 0} → (A → B) → Result A Refusal → Outcome B
said_as meant (Ok a) = result (meant a)
said_as meant (Err r) = refused_as r

-- the same of a result that is what it says
abbrev pub said : {A : Type 0} → Result A Refusal → Outcome A
said (Ok a) = result a
said (Err r) = refused_as r

-- what there is, or nothing: an option of the code's as the definitions have it
abbrev pub maybe_of : {A : Type 0} → Option A → maybe.Option A
maybe_of (Some a) = maybe.some a
maybe_of None = maybe.none

abbrev pub cause_by : (number place word : ℕ) → Cause
cause_by n p w = record { number = n; place = p; word = w }

-- number, place and word of what refuses; zeros where nothing does
abbrev pub cause_of : {A : Type 0} → Outcome A → Cause
cause_of (result a) = cause_by 0 0 0
cause_of (faulty n p) = cause_by n p 0
cause_of (refused n p w) = cause_by n p w
