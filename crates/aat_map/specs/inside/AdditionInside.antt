-- What becomes of a feature, as the code answers it.
use Rattle.aat_map.specs.Requests.{Addition}
use Rattle.aat_map.specs.declared.addition.AddedFeature.{AddedFeature}

-- the same as its definition has it
abbrev pub addition_from : AddedFeature → Addition
addition_from a = record { is_known = a.is_known; appended = a.appended }
