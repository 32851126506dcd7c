-- What the driver is handed of a verdict, by computing.
use mathlib.Core.Path.{◌≡◌, refl}
use Rattle.refusal.specs.declared.Kind.TheVariants.{WrongMeeting}
use Rattle.refusal.specs.Order.{accepted, refused}
use Rattle.measure.specs.Numbers.{check_numbers, sweep_number}

pub record Cases : Type 0 where
  pub refused_told : check_numbers (refused WrongMeeting 3) ≡ record { number = 8; place = 3 }
  pub accepted_told : check_numbers accepted ≡ record { number = 0; place = 0 }
  pub refused_swept : sweep_number (refused WrongMeeting 3) ≡ 2
  pub accepted_swept : sweep_number accepted ≡ 1

pub cases : Cases
cases = record { refused_told = refl; accepted_told = refl; refused_swept = refl; accepted_swept = refl }
