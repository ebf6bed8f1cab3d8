-- What the code's `==` says of a status. Assumes nothing.
use mathlib.Core.Path.{◌≡◌, refl}
use mathlib.Core.Bool.{not}
use denote.Enum.Bare.{sameb}
use Rattle.choice.specs.contracts.Status.{the_type}
use Rattle.choice.specs.declared.Status.{Status}
use Rattle.choice.specs.declared.Status.TheVariants.{Dead, Sure, Open}
use Rattle.choice.specs.Status.{is_sure, is_open, is_live}

pub live_is : (x : Status) → not (sameb the_type x Dead) ≡ is_live x
live_is Dead = refl
live_is Sure = refl
live_is Open = refl

pub sure_is : (x : Status) → sameb the_type x Sure ≡ is_sure x
sure_is Dead = refl
sure_is Sure = refl
sure_is Open = refl

pub open_is : (x : Status) → sameb the_type x Open ≡ is_open x
open_is Dead = refl
open_is Sure = refl
open_is Open = refl
