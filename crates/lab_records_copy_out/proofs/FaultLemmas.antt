-- Where a fault may be told, as it passes from one call to the next.
use Rattle.lab_records_copy_out.specs.declared.faults.CopyOutFault.{CopyOutFault}
use Rattle.lab_records_copy_out.specs.declared.faults.CopyOutFault.TheVariants.{NoSuchLab, Storage, Memory, Write}
use Rattle.lab_records_copy_out.specs.Faults.{CopyFaultFits}

pub fits_as : (none refuses some other may there : Type 0) (fault : CopyOutFault) →
    (none → other) → (refuses → may) → (some → there) →
    CopyFaultFits none refuses some fault → CopyFaultFits other may there fault
fits_as none refuses some other may there NoSuchLab one two three fits = one fits
fits_as none refuses some other may there Storage one two three fits = two fits
fits_as none refuses some other may there Memory one two three fits = tt
fits_as none refuses some other may there Write one two three fits = three fits
