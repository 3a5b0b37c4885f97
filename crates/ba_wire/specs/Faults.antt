-- Believe: these codes answer the refusals of envelopes (SOAP 1.1, section 4.4.1; WS-Coordination 1.2, section 4;
-- WS-Addressing 1.0 SOAP Binding, section 6.4).
use Rattle.std.specs.Prelude.{Option, Some, None}
use Rattle.ba_core.specs.declared.codes.Code.{Code}
use Rattle.ba_core.specs.declared.codes.Code.TheVariants as code
use Rattle.ba_soap.specs.declared.headers.SoapFault.{SoapFault}
use Rattle.ba_soap.specs.declared.headers.SoapFault.TheVariants as soap
use Rattle.ba_wire.specs.declared.faults.WireFault.{WireFault}
use Rattle.ba_wire.specs.declared.faults.WireFault.TheVariants as fault

abbrev pub code_for_envelope : SoapFault → Option Code
code_for_envelope soap.Memory = None
code_for_envelope soap.VersionMismatch = Some code.VersionMismatch
code_for_envelope (soap.MustUnderstand block) = Some code.MustUnderstand
code_for_envelope soap.NoBody = Some code.Client
code_for_envelope (soap.HeaderRequired h) = Some code.MessageAddressingHeaderRequired
code_for_envelope (soap.InvalidHeader h) = Some code.InvalidAddressingHeader
code_for_envelope soap.Shape = Some code.Client

-- what is no envelope at all isn't answered by a fault
abbrev pub code_for : WireFault → Option Code
code_for fault.Memory = None
code_for (fault.Xml reason place) = None
code_for (fault.Soap f) = code_for_envelope f
code_for fault.OnlyAnonymous = Some code.InvalidAddressingHeader
code_for (fault.EprLimit n) = Some code.InvalidParameters
code_for fault.ActionNotSupported = Some code.ActionNotSupported
code_for (fault.BodyMismatch n) = Some code.InvalidParameters
