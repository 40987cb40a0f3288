mod Serving
mod Outputs
mod Refusing
